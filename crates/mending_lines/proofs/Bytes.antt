-- What a lookup finds fits a byte: the case and the reference; and a refusal's number is a digit. Assumes nothing.
use mathlib.Core.Path.{◌≡◌, refl, sym, ap}
use mathlib.Core.Bool.{Bool, true, false}
use mathlib.Core.List.{List}
use mathlib.Core.Option.{Option, none, some}
use Prim.Native.Nat.{ℕ, zero, suc, ◌+◌, ◌-◌, ◌^◌, ◌<◌, ◌≤◌, zero-le}
use native.Mathlib.Omega.{arith}
use lib.Dec.{leb}
use lib.ListN.{get_or}
use borrow.Author.Tests.{leb-true}
use Rattle.common.specs.Digits.{from_digits}
use Rattle.common.specs.Factorials.{factorial}
use Rattle.common.specs.Refusals.{unless, is_dimension, answer}
use Rattle.common.specs.Tests.{count}
use Rattle.common.proofs.Cases.{by_bool, inside_low, inside_high}
use Rattle.common.proofs.Digits.{from_digits_below}
use Rattle.common.proofs.Limits.{passed}
use Rattle.common.proofs.Tests.{each_at}
use Rattle.vectors.specs.declared.Known.{Known}
use Rattle.vectors.specs.declared.Vector.{Vector}
use Rattle.vectors.specs.LookUps.{entries, look_up, look_up_number, known_of}
use Rattle.vectors.specs.Order.{axis_order, sorted}
use Rattle.vectors.specs.Vectors.{sizes, at_most, reference_of, far_reference, is_reference}
use Rattle.vectors.proofs.Orders.{axis_below, axis_order_below}
use Rattle.turn.specs.Tables.{cases}
use Rattle.turn.proofs.Right.{case_below}
use Rattle.records.specs.Text.{vector}
use Rattle.mending_lines.specs.Records.{found}

-- what an answer is of that has values, or none
values : ℕ × Option Known → Option Known
values t = t.1

number : ℕ × Option Known → ℕ
number t = t.0

taken : (m n : ℕ) (a k : Known) → answer m a ≡ (n, some k) → (m ≡ 0) × (k ≡ a)
unfolding values
taken zero n a k h = let e = ap values h in (refl, cc)
taken (suc m) n a k h = let e = ap values h in let z : ◌≡◌ {A = ℕ} 0 1 = cc in absurd (omega arith)

done : (m n : ℕ) (a k : Known) → answer m a ≡ (n, some k) → n ≡ 0
unfolding values number
done zero n a k h = sym (ap number h)
done (suc m) n a k h = let e = ap values h in let z : ◌≡◌ {A = ℕ} 0 1 = cc in absurd (omega arith)

refused : (m n : ℕ) (a : Known) → answer m a ≡ (n, none) → n ≡ m
unfolding values number
refused zero n a h = let e = ap values h in let z : ◌≡◌ {A = ℕ} 0 1 = cc in absurd (omega arith)
refused (suc m) n a h = sym (ap number h)

few_cases : (D : ℕ) → 1 ≤ D → D ≤ 3 → (cases D ≤ 48) × (4 ^ D ≤ 64)
unfolding factorial
few_cases zero l m = absurd (omega arith)
few_cases (suc zero) l m = (omega arith, omega arith)
few_cases (suc (suc zero)) l m = (omega arith, omega arith)
few_cases (suc (suc (suc zero))) l m = (omega arith, omega arith)
few_cases (suc (suc (suc (suc D)))) l m = absurd (omega arith)

count_most : (n : ℕ) (f : ℕ → Bool) → count n f ≤ n
unfolding count
count_most zero f = zero-le
count_most (suc n) f = let less = count_most n f in by_bool (f n) (λ e. rw e (omega arith)) (λ e. rw e (omega arith))

-- a reference's number is at most that of its sizes as digits in base 4
reference_most : (D : ℕ) (s : ℕ → ℕ) → at_most 3 D s ≡ true → reference_of D s ≤ 4 ^ D
unfolding reference_of far_reference at_most sorted
reference_most D s h =
    let small : (a : ℕ) → a < D → s a ≤ 3 = λ a l. leb-true (s a) 3 (each_at D (λ a. leb (s a) 3) h a l) in
    let code = from_digits_below 4 D (sorted D s)
    (λ m l. omega (arith, small _ (axis_below D (axis_order D s) m (axis_order_below D s) l))) in
    by_bool (at_most 1 D s) (λ e. rw e zero-le)
    (λ e. rw e (omega (arith, count_most (from_digits 4 D (sorted D s)) (is_reference D))))

known_bytes : (D : ℕ) (v : Vector) (n : ℕ) (k : Known) → look_up D v ≡ (n, some k) → (k.case < 256) × (k.reference < 256)
unfolding look_up look_up_number known_of
known_bytes D v n k h =
    let d = taken (look_up_number D (sizes (entries v))) n (known_of D (entries v)) k h in
    let p = passed (is_dimension D) 0 _ d.0 in
    let q = passed (at_most 3 D (sizes (entries v))) 3 _ p.1 in
    let few = few_cases D (inside_low 1 3 D p.0) (inside_high 1 3 D p.0) in
    rw d.1 (omega (arith, few, case_below D (entries v)), omega (arith, few, reference_most D (sizes (entries v)) q.0))

pub found_bytes : (l : List ℕ) (n : ℕ) (k : Known) → found l ≡ (n, some k) → (k.case < 256) × (k.reference < 256)
unfolding found
found_bytes l n k h = known_bytes (get_or l 0 0) (vector (get_or l 1 0) (get_or l 2 0) (get_or l 3 0)) n k h

-- a refusal's number is a digit
unless_most : (t : Bool) (n rest : ℕ) → n ≤ 6 → rest ≤ 6 → unless t n rest ≤ 6
unless_most true n rest h k = k
unless_most false n rest h k = h

number_most : (D : ℕ) (s : ℕ → ℕ) → look_up_number D s ≤ 6
unfolding look_up_number
number_most D s =
    unless_most (is_dimension D) 1 _ (omega arith)
    (unless_most (at_most 3 D s) 4 _ (omega arith)
    (unless_most (at_most 0 (3 - D) (λ a. s (D + a))) 6 0 (omega arith) (omega arith)))

pub refused_most : (l : List ℕ) (n : ℕ) → found l ≡ (n, none) → n ≤ 6
unfolding found look_up
refused_most l n h =
    let D = get_or l 0 0 in
    let v = vector (get_or l 1 0) (get_or l 2 0) (get_or l 3 0) in
    rw (refused (look_up_number D (sizes (entries v))) n (known_of D (entries v)) h) (number_most D (sizes (entries v)))

-- what is known comes with the number 0
pub found_number : (l : List ℕ) (n : ℕ) (k : Known) → found l ≡ (n, some k) → n ≡ 0
unfolding found look_up
found_number l n k h =
    let D = get_or l 0 0 in
    let v = vector (get_or l 1 0) (get_or l 2 0) (get_or l 3 0) in
    done (look_up_number D (sizes (entries v))) n (known_of D (entries v)) k h
