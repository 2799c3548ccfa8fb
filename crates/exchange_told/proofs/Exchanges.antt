-- A number, a line and values in a lent slice: what the calls of `exchange` tell is the outcome of the format's own definition, with the
-- test of the slice last. Assumes nothing.
use mathlib.Core.Path.{◌≡◌, refl, sym, ap, ◌∙◌}
use mathlib.Core.Bool.{true, false, ◌&&◌}
use mathlib.Core.List.{List}
use mathlib.Core.Option.{Option}
use Prim.Native.Nat.{ℕ, ◌+◌, ◌*◌, min}
use native.Mathlib.Omega.{arith}
use lib.Arith.{digits_div, digits_mod}
use lib.Dec.{leb, eqb}
use lib.IntN.{ℤ}
use lib.Ieee.{Float}
use lib.ListN.{length}
use Rattle.common.proofs.Cases.{by_bool}
use Rattle.common.specs.Refusals.{most_entries}
use Rattle.exchange_format.specs.Lines.{lines}
use Rattle.exchange_format.specs.Words.{Size}
use Rattle.exchange_format.specs.Reading.{Outcome, refuse, give, then, opening, Block, count, verdict, fitting, reading}
use Rattle.exchange_format.specs.Writing.{wholes, written, fitting_text, writing}
use Rattle.exchange_format.specs.Calls.{answered, left_in, left_text, size_from, size_call, read_call, write_call}
use Rattle.exchange_told.specs.Exchanged.{most_line, with_line, ToldApart, if_fit, number_of, values_of, size_values, size_told, read_told}
use Rattle.exchange_told.specs.Exchanged.{write_told}
use Rattle.exchange_told.specs.Working.{values_told, count_values}

-- NUMBER AND LINE come back from what is told

pub told_apart : ToldApart
unfolding with_line
told_apart n k l m =
    let line : min k most_line ≡ k = omega arith in
    let same : n + 256 * min k most_line ≡ k * 256 + n = omega (arith, line) in
    rw same (digits_mod k l, digits_div k l)

module _ {A B : Type 0} (f : A → B) (values : B → List ℕ) (n : ℕ) where
  -- what is told of an outcome, in one equation
  pub values_told_lem : (o : Outcome A) (lent : List ℕ) → values_told values n (answered f o) lent
      ≡ (number_of (if_fit (eqb (length lent) n) o), values_of (λ a. values (f a)) (if_fit (eqb (length lent) n) o) lent)
  unfolding values_told if_fit
  values_told_lem (refuse m k) lent = refl
  values_told_lem (give a) lent = by_bool (eqb (length lent) n) (λ e. rw e) (λ e. rw e)

-- a slice that fits changes nothing
fit_same : {A : Type 0} (o : Outcome A) → if_fit true o ≡ o
unfolding if_fit
fit_same (refuse n k) = refl
fit_same (give a) = refl

-- A CALL THAT LEAVES something else too: `keep` says what comes of an outcome there. `told` is what the call of `exchange` tells, and
-- `r`, `left` and `after` are what comes of that.
module _ {A B X : Type 0} (f : A → B) (values : B → List ℕ) (n : ℕ) (keep : Outcome A → X) (o : Outcome A) (lent after : List ℕ) (r : ℕ)
    (told : ℕ × ℕ × Option B) (left : X) (t : (r, after) ≡ values_told values n told lent) where
  abbrev whole : Outcome A
  whole = if_fit (eqb (length lent) n) o

  abbrev Tells : Type 0
  Tells = ◌≡◌ {A = ℕ × X × List ℕ} (r, left, after) (number_of whole, keep whole, values_of (λ a. values (f a)) whole lent)

  abbrev as_pair : ℕ × List ℕ → ℕ × X × List ℕ
  as_pair x = (x.0, left, x.1)

  abbrev leaving : X → ℕ × X × List ℕ
  leaving y = (number_of whole, y, values_of (λ a. values (f a)) whole lent)

  -- from what is told of another outcome, which the slice's test makes the same
  tells : (o' : Outcome A) → told ≡ answered f o' → if_fit (eqb (length lent) n) o' ≡ whole → left ≡ keep whole → Tells
  tells o' e same l =
      let pair = t ∙ ap (λ (x : ℕ × ℕ × Option B). values_told values n x lent) e ∙ values_told_lem f values n o' lent in
      ap as_pair pair ∙ ap (λ (x : Outcome A). as_pair (number_of x, values_of (λ a. values (f a)) x lent)) same ∙ ap leaving l

  pub tells_fit : eqb (length lent) n ≡ true → ◌≡◌ {A = (ℕ × ℕ × Option B) × X} (told, left) (answered f o, keep o) → Tells
  tells_fit fits e =
      let same : whole ≡ o = rw fits (fit_same o) in
      tells o (ap (λ (x : (ℕ × ℕ × Option B) × X). x.0) e) refl
      (ap (λ (x : (ℕ × ℕ × Option B) × X). x.1) e ∙ ap keep (sym same))

  pub tells_unfit : (o' : Outcome A) → eqb (length lent) n ≡ false → told ≡ answered f o' → if_fit false o' ≡ if_fit false o →
      left ≡ keep (if_fit false o) → Tells
  tells_unfit o' unfit e same l = tells o' e (rw unfit same) (rw unfit l)

-- READING: with a slice that does not fit, the room for the block decides nothing

fitting_unfit : (b : Block) (room room' : ℕ) → if_fit false (fitting room b) ≡ if_fit false (fitting room' b)
unfolding if_fit
fitting_unfit b room room' =
    by_bool (eqb (count b.sizes) room)
    (λ e. rw e (by_bool (eqb (count b.sizes) room') (λ e'. rw e') (λ e'. rw e')))
    (λ e. rw e (by_bool (eqb (count b.sizes) room') (λ e'. rw e') (λ e'. rw e')))

then_unfit : (o : Outcome Block) (room room' : ℕ) → if_fit false (then o (fitting room)) ≡ if_fit false (then o (fitting room'))
unfolding if_fit
then_unfit (refuse n k) room room' = refl
then_unfit (give b) room room' = fitting_unfit b room room'

reading_unfit : (text : List ℕ) (room room' : ℕ) → if_fit false (reading text room) ≡ if_fit false (reading text room')
unfolding reading
reading_unfit text room room' = then_unfit (verdict text) room room'

-- WRITING: nor does the room for the text

text_unfit : (t : List ℕ) (room room' : ℕ) → if_fit false (fitting_text room t) ≡ if_fit false (fitting_text room' t)
unfolding if_fit
text_unfit t room room' =
    by_bool (leb (length t) room)
    (λ e. rw e (by_bool (leb (length t) room') (λ e'. rw e') (λ e'. rw e')))
    (λ e. rw e (by_bool (leb (length t) room') (λ e'. rw e') (λ e'. rw e')))

wholes_unfit : (s : Size) (o : Outcome (List ℤ)) (room room' : ℕ) →
    if_fit false (then o (λ xs. fitting_text room (written (record { sizes = s; whole = xs }))))
    ≡ if_fit false (then o (λ xs. fitting_text room' (written (record { sizes = s; whole = xs }))))
unfolding if_fit
wholes_unfit s (refuse n k) room room' = refl
wholes_unfit s (give xs) room room' = text_unfit (written (record { sizes = s; whole = xs })) room room'

writing_unfit : (s : Size) (block : List Float) (room room' : ℕ) →
    if_fit false (writing s block room) ≡ if_fit false (writing s block room')
unfolding writing if_fit
writing_unfit s block room room' =
    by_bool (leb s.rows most_entries && leb s.columns most_entries)
    (λ e. rw e (by_bool (eqb (length block) (count s)) (λ e'. rw e' (wholes_unfit s (wholes 3 block) room room')) (λ e'. rw e')))
    (λ e. rw e)

-- what stands in the block, or in the text, stays
unfit_block : (block : List Float) (o : Outcome Block) → block ≡ left_in block (if_fit false o)
unfolding if_fit
unfit_block block (refuse n k) = refl
unfit_block block (give b) = refl

unfit_text : (text : List ℕ) (o : Outcome (List ℕ)) → text ≡ left_text text (if_fit false o)
unfolding if_fit
unfit_text text (refuse n k) = refl
unfit_text text (give t) = refl

-- THE CALLS

module _ (text sizes after : List ℕ) (r : ℕ) (told : ℕ × ℕ × Option Size) (t : (r, after) ≡ values_told size_values 2 told sizes) where
  pub size_told_lem : told ≡ size_call text → (r, after) ≡ size_told text sizes
  unfolding size_call size_told
  size_told_lem e =
      t ∙ ap (λ (x : ℕ × ℕ × Option Size). values_told size_values 2 x sizes) e
      ∙ values_told_lem (λ o. o.sizes) size_values 2 (opening (lines text)) sizes

  module _ (block : List Float) where
    pub read_told_lem : (left : List Float) → eqb (length sizes) 2 ≡ true → (told, left) ≡ read_call text block →
        (r, left, after) ≡ read_told text block sizes
    unfolding read_call read_told
    read_told_lem left =
        tells_fit (λ b. b.sizes) size_values 2 (left_in block) (reading text (length block)) sizes after r told left t

    pub unread_told : (none left : List Float) → eqb (length sizes) 2 ≡ false → (told, left) ≡ read_call text none →
        (r, block, after) ≡ read_told text block sizes
    unfolding read_call read_told
    unread_told none left unfit e =
        tells_unfit (λ b. b.sizes) size_values 2 (left_in block) (reading text (length block)) sizes after r told block t
        (reading text (length none)) unfit (ap (λ (x : (ℕ × ℕ × Option Size) × List Float). x.0) e)
        (reading_unfit text (length none) (length block)) (unfit_block block (reading text (length block)))

module _ (m n : ℕ) (block : List Float) (text count after : List ℕ) (r : ℕ) (told : ℕ × ℕ × Option ℕ)
    (t : (r, after) ≡ values_told count_values 1 told count) where
  abbrev outcome : (room : ℕ) → Outcome (List ℕ)
  outcome room = writing (size_from m n) block room

  pub written_told : (left : List ℕ) → eqb (length count) 1 ≡ true → (told, left) ≡ write_call m n block text →
      (r, left, after) ≡ write_told m n block text count
  unfolding write_call write_told
  written_told left = tells_fit length count_values 1 (left_text text) (outcome (length text)) count after r told left t

  pub unwritten_told : (none left : List ℕ) → eqb (length count) 1 ≡ false → (told, left) ≡ write_call m n block none →
      (r, text, after) ≡ write_told m n block text count
  unfolding write_call write_told
  unwritten_told none left unfit e =
      tells_unfit length count_values 1 (left_text text) (outcome (length text)) count after r told text t (outcome (length none)) unfit
      (ap (λ (x : (ℕ × ℕ × Option ℕ) × List ℕ). x.0) e) (writing_unfit (size_from m n) block (length none) (length text))
      (unfit_text text (outcome (length text)))
