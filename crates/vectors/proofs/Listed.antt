-- The constant tables of reference vectors are the references: all of them, each once, in order, by one computed test. Assumes nothing.
use mathlib.Core.Path.{◌≡◌, refl, sym, ap, ◌∙◌}
use mathlib.Core.Bool.{Bool, true, false}
use mathlib.Core.List.{List, [], ◌∷◌}
use mathlib.Core.Option.{none, some}
use Prim.Native.Nat.{ℕ, zero, suc, ◌+◌, ◌-◌, ◌<◌, ◌≤◌}
use native.Mathlib.Numerals.{add-one}
use native.Mathlib.Omega.{arith}
use lib.Dec.{ltb}
use lib.IntN.{pos}
use lib.ListN.{length, get_or}
use borrow.Author.Tests.{lt-ltb, le-ltb, ltb-true, le-leb, lt-leb}
use Rattle.common.specs.Tests.{each, those}
use Rattle.common.specs.Digits.{from_digits, digit}
use Rattle.common.specs.Lists.{tabulate}
use Rattle.std.specs.Prelude.{Result, Ok, Err}
use Rattle.common.specs.Numbers.{number, told}
use Rattle.common.specs.Refusals.{is_dimension}
use Rattle.common.specs.declared.refusals.Refusal.{Refusal}
use Rattle.common.proofs.Answers.{refused_by, done_by}
use Rattle.common.proofs.Cases.{by_bool, by_lt, by_last, inside}
use Rattle.common.proofs.Fill.{get_d_tabulate}
use Rattle.common.proofs.Limits.{passed}
use Rattle.common.proofs.Tests.{each_at}
use Rattle.vectors.specs.declared.Vector.{Vector}
use Rattle.vectors.specs.Vectors.{sizes, is_reference, references, entry}
use Rattle.vectors.specs.LookUps.{entries, reference_number, reference_at, reference_call}

abbrev v : (x y z : ℕ) → Vector
v x y z = (pos x, pos y, pos z)

abbrev origin : Vector
origin = v 0 0 0

abbrev pub references_1 : List Vector
references_1 = v 2 0 0 ∷ v 3 0 0 ∷ []

abbrev pub references_2 : List Vector
references_2 = v 2 0 0 ∷ v 2 1 0 ∷ v 2 2 0 ∷ v 3 0 0 ∷ v 3 1 0 ∷ v 3 2 0 ∷ v 3 3 0 ∷ []

abbrev pub references_3 : List Vector
references_3 =
    v 2 0 0 ∷ v 2 1 0 ∷ v 2 1 1 ∷ v 2 2 0 ∷ v 2 2 1 ∷ v 2 2 2 ∷ v 3 0 0 ∷ v 3 1 0 ∷ v 3 1 1 ∷ v 3 2 0 ∷ v 3 2 1 ∷ v 3 2 2 ∷ v 3 3 0 ∷ v 3
    3 1 ∷
    v 3 3 2 ∷ v 3 3 3 ∷ []

-- THE TEST: for dimensions 1, 2 and 3, the list of all references
all_listed : tabulate 3 (λ d. tabulate (length (references (suc d))) (reference_at (suc d)))
    ≡ references_1 ∷ references_2 ∷ references_3 ∷ []
unfolding references reference_at entry those is_reference each digit
all_listed = refl

abbrev tables : List (List Vector)
tables = references_1 ∷ references_2 ∷ references_3 ∷ []

-- how many there are
pub many_1 : length (references 1) ≡ 2
unfolding references those is_reference each digit
many_1 = refl

pub many_2 : length (references 2) ≡ 7
unfolding references those is_reference each digit
many_2 = refl

pub many_3 : length (references 3) ≡ 16
unfolding references those is_reference each digit
many_3 = refl

at_dimension : (d i : ℕ) (l : List Vector) (w : Vector) → d < 3 → get_or tables d [] ≡ l → i < length (references (suc d)) →
    get_or l i w ≡ reference_at (suc d) i
at_dimension d i l w h e b =
    let all : ℕ → List Vector = λ d. tabulate (length (references (suc d))) (reference_at (suc d)) in
    let same : all d ≡ l = sym (get_d_tabulate 3 all d [] h) ∙ ap (λ (t : List (List Vector)). get_or t d []) all_listed ∙ e in
    rw (← same) (get_d_tabulate (length (references (suc d))) (reference_at (suc d)) i w b)

-- THE TABLES RISE, by one computed test over neighbours; so none stands twice

-- a vector's place among all with entries 0 to 3, the first axis slowest
pub rank : Vector → ℕ
rank w = from_digits 4 3 (sizes (entries w))

rising : List Vector → Bool
rising l = each (length l - 1) (λ i. ltb (rank (get_or l i origin)) (rank (get_or l (i + 1) origin)))

all_rise : each 3 (λ d. rising (get_or tables d [])) ≡ true
unfolding rising rank each from_digits
all_rise = refl

module _ (l : List Vector) (up : rising l ≡ true) where
  rises : (i j : ℕ) → i < j → j < length l → rank (get_or l i origin) < rank (get_or l j origin)
  unfolding rising
  rises i zero b h = absurd (omega arith)
  rises i (suc j) b h =
      let near : rank (get_or l j origin) < rank (get_or l (j + 1) origin) = ltb-true _ _ (each_at (length l - 1) _ up j (omega arith)) in
      let next : rank (get_or l j origin) < rank (get_or l (suc j) origin) = rw add-one at near in
      by_last i j b (λ e. rw e next) (λ b'. let more = rises i j b' (omega arith) in omega arith)

-- at an entry: reference number i of dimension d + 1 comes before number j, and is another vector
module _ (d i j : ℕ) (h : d < 3) (b : i < j) (l : j < length (get_or tables d [])) where
  pub references_rise : rank (get_or (get_or tables d []) i origin) < rank (get_or (get_or tables d []) j origin)
  references_rise = rises (get_or tables d []) (each_at 3 _ all_rise d h) i j b l

  pub references_once : get_or (get_or tables d []) i origin ≡ get_or (get_or tables d []) j origin → ⊥
  references_once e = let same = ap rank e in omega (arith, references_rise)

-- WHAT THE CALL ANSWERS in a dimension with n references, which the list l holds

module _ (D d i n : ℕ) (l : List Vector) (h : d < 3) (here : D ≡ suc d) (held : get_or tables d [] ≡ l)
    (e : length (references (suc d)) ≡ n) where
  pub found : (w : Vector) → i < n → (0, some (get_or l i w)) ≡ reference_call D i
  unfolding reference_call reference_number
  found w b =
      rw (here, inside 1 3 (suc d) (omega arith) (omega arith), e, lt-ltb i n b)
      (ap (λ (v : Vector). (0, some v)) (at_dimension d i l w h held (rw e b)))

  pub refused : n ≤ i → (5, none) ≡ reference_call D i
  unfolding reference_call reference_number
  refused b = rw (here, inside 1 3 (suc d) (omega arith) (omega arith), e, le-ltb i n b)

pub no_dimension : (D i : ℕ) → (D ≡ 1 → ⊥) → (D ≡ 2 → ⊥) → (D ≡ 3 → ⊥) → (1, none) ≡ reference_call D i
unfolding reference_call reference_number
no_dimension D i a b c =
    by_lt 3 D (λ l _. rw (le-leb 1 D (omega arith), lt-leb D 3 l)) (λ l _. rw (lt-leb 1 D (omega arith)))

-- the entries of a reference vector
pub reference_there : (D i m : ℕ) → D ≤ 3 → m < D → entries (reference_at D i) m ≡ pos (entry D i m)
unfolding reference_at
reference_there D i zero h l = rw (lt-ltb 0 D l)
reference_there D i (suc zero) h l = rw (lt-ltb 1 D l)
reference_there D i (suc (suc zero)) h l = rw (lt-ltb 2 D l)
reference_there D i (suc (suc (suc m))) h l = absurd (omega arith)

-- BACK FROM WHAT IS ANSWERED to whether there is such a reference

module _ (D i : ℕ) (r : Result Vector Refusal) (by : told r ≡ reference_call D i) (d : is_dimension D ≡ true) where
  pub reference_found : (v : Vector) → r ≡ Ok v → (ltb i (length (references D)) ≡ true) × (v ≡ reference_at D i)
  unfolding reference_call reference_number
  reference_found v e =
      let done = done_by (reference_number D i) (reference_at D i) v (sym (ap told e) ∙ by) in
      ((passed (ltb i (length (references D))) 4 0 (rw d at done.0)).0, done.1)

  pub reference_none : (k : Refusal) → r ≡ Err k → ltb i (length (references D)) ≡ false
  unfolding reference_call reference_number
  reference_none k e =
      let refused = refused_by (number k) (reference_number D i) (reference_at D i) (sym (ap told e) ∙ by) in
      by_bool (ltb i (length (references D))) (λ h. absurd (refused.1 (rw (d, h)))) (λ h. h)
