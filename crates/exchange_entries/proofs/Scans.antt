-- A scan along an entry's line, from its first digit on: what holds after some digits, and what each way out says. Assumes nothing.
use mathlib.Core.Path.{◌≡◌, refl, sym, ap, ◌∙◌}
use mathlib.Core.Bool.{Bool, true, false}
use mathlib.Core.List.{List, [], ◌∷◌}
use mathlib.Core.Option.{Option, some, none}
use Prim.Native.Nat.{ℕ, suc, ◌+◌, ◌-◌, ◌*◌, ◌<◌, ◌≤◌}
use native.Mathlib.Omega.{arith}
use lib.ListN.{length, get_or, drop}
use borrow.Author.Tests.{eq-eqb, ne_eqb}
use Rattle.common.proofs.Cases.{by_bool, by_lt, by_eq, not_both, inside_low, inside_high}
use Rattle.exchange_format.specs.Lines.{newline, before, from}
use Rattle.exchange_format.specs.Words.{is_digit, most_size, numeral, signed, entry}
use Rattle.std.specs.Prelude.{Some, None}
use Rattle.std.specs.Prelude.{Option as Answer}
use Rattle.exchange_entries.specs.declared.entries.Number.{Number}
use Rattle.exchange_entries.specs.declared.entries.Entry.{Entry}
use Rattle.exchange_entries.specs.Working.{line_at, is_fit, Past, Scans, Reads, signed_float, value_of, Valued}
use Rattle.exchange_lines.proofs.Scanning.{step, done, past_line}
use Rattle.exchange_lines.proofs.Running.{running, numeral_none, running_start, running_digit, running_other, running_large, running_end}

-- THE REST OF A LINE, from a place on

module _ (text : List ℕ) (i : ℕ) where
  pub line_end : length text ≤ i → line_at text i ≡ []
  unfolding before
  line_end h = rw (done text i h)

  pub line_newline : i < length text → get_or text i 0 ≡ newline → line_at text i ≡ []
  unfolding before
  line_newline h e = rw (step text i h, eq-eqb (get_or text i 0) newline e)

  pub line_more : i < length text → (get_or text i 0 ≡ newline → ⊥) → line_at text i ≡ get_or text i 0 ∷ line_at text (i + 1)
  unfolding before
  line_more h e = rw (step text i h, ne_eqb (get_or text i 0) newline e)

-- AFTER SOME DIGITS, which gave n, the scan is at place i

pub record Scanning (text : List ℕ) (start n i : ℕ) : Type 0 where
  pub least : start ≤ i
  pub most : i ≤ length text
  pub small : n ≤ most_size
  pub place : i + length (line_at text i) ≡ start + length (line_at text start)
  pub says : running most_size n (line_at text i) ≡ running most_size 0 (line_at text start)

pub scanning_start : (text : List ℕ) (start : ℕ) → start ≤ length text → Scanning text start 0 start
scanning_start text start h = record { least = omega arith; most = h; small = omega arith; place = refl; says = refl }

-- the byte at place i as a digit
abbrev pub digit_at : (text : List ℕ) (i : ℕ) → ℕ
digit_at text i = get_or text i 0 - 48

module _ {text : List ℕ} {start n i : ℕ} (h : Scanning text start n i) where
  module _ (in-text : i < length text) where
    digit_not_newline : is_digit (get_or text i 0) ≡ true → get_or text i 0 ≡ newline → ⊥
    digit_not_newline d e = omega (arith, inside_low 48 57 (get_or text i 0) d)

    says_here : (get_or text i 0 ≡ newline → ⊥) →
        running most_size n (get_or text i 0 ∷ line_at text (i + 1)) ≡ running most_size 0 (line_at text start)
    says_here e = ap (running most_size n) (sym (line_more text i in-text e)) ∙ h.says

    -- a line with a byte has the number that its digits run up to
    whole_line : (get_or text i 0 ≡ newline → ⊥) → running most_size 0 (line_at text start) ≡ numeral most_size (line_at text start)
    whole_line e =
        let one : length (line_at text i) ≡ suc (length (line_at text (i + 1))) = ap length (line_more text i in-text e) in
        running_start most_size (line_at text start) (λ q. omega (arith, h.place, h.least))

    pub says_digit : is_digit (get_or text i 0) ≡ true →
        running most_size (n * 10 + digit_at text i) (line_at text (i + 1)) ≡ running most_size 0 (line_at text start)
    says_digit d =
        sym (running_digit most_size n (get_or text i 0) (line_at text (i + 1)) d) ∙ says_here (digit_not_newline d)

    pub scanning_more : is_digit (get_or text i 0) ≡ true → n * 10 + digit_at text i ≤ most_size → Scanning text start
        (n * 10 + digit_at text i) (i + 1)
    scanning_more d l =
        let one : length (line_at text i) ≡ suc (length (line_at text (i + 1))) = ap length
        (line_more text i in-text (digit_not_newline d)) in
        record {
          least = omega (arith, h.least);
          most = omega arith;
          small = l;
          place = omega (arith, h.place);
          says = says_digit d;
        }

    pub no_digit : is_digit (get_or text i 0) ≡ false → (get_or text i 0 ≡ newline → ⊥) → numeral most_size (line_at text start) ≡ none
    no_digit d e =
        sym (whole_line e) ∙ sym (says_here e) ∙ running_other most_size n (get_or text i 0) (line_at text (i + 1)) d

    pub too_large : is_digit (get_or text i 0) ≡ true → most_size < n * 10 + digit_at text i → numeral most_size (line_at text start) ≡ none
    too_large d l =
        sym (whole_line (digit_not_newline d)) ∙ sym (says_digit d) ∙ running_large most_size (n * 10 + digit_at text i)
        (line_at text (i + 1)) l

  -- THE LINE'S END

  module _ (over : line_at text i ≡ []) where
    none_left : length (line_at text i) ≡ 0
    none_left = ap length over

    pub no_digits : i ≤ start → numeral most_size (line_at text start) ≡ none
    no_digits l = numeral_none most_size (line_at text start) (omega (arith, h.place, none_left))

    pub number : start < i → numeral most_size (line_at text start) ≡ some n
    number l =
        sym (running_start most_size (line_at text start) (λ q. omega (arith, h.place, none_left))) ∙ sym h.says ∙
        ap (running most_size n) over ∙ running_end most_size n h.small

    ends : i ≡ start + length (line_at text start)
    ends = omega (arith, h.place, none_left)

    pub past_newline : i < length text → Past text start (i + 1)
    past_newline l =
        record {
          within = omega arith;
          further = omega (arith, h.least);
          rest = sym (past_line text start i (omega (arith, h.least, h.most)) ends);
        }

    pub past_end : length text ≤ i → start < i → Past text start i
    past_end l m =
        record {
          within = h.most;
          further = m;
          rest =
              done text i l ∙ sym (done text (i + 1) (omega arith)) ∙
              sym (past_line text start i (omega (arith, h.least, h.most)) ends);
        }

  -- A LINE THAT IS KNOWN to hold a number

  module _ (known : is_fit (numeral most_size (line_at text start)) ≡ true) where
    never : {A : Type 0} → numeral most_size (line_at text start) ≡ none → A
    never e = not_both known (ap is_fit e)

    pub digit_known : i < length text → (get_or text i 0 ≡ newline → ⊥) → is_digit (get_or text i 0) ≡ true
    digit_known l e = by_bool (is_digit (get_or text i 0)) (λ d. d) (λ d. never (no_digit l d e))

    pub still_small : i < length text → is_digit (get_or text i 0) ≡ true → n * 10 + digit_at text i ≤ most_size
    still_small l d = by_lt most_size (n * 10 + digit_at text i) (λ m _. never (too_large l d m)) (λ m _. m)

-- THE FIRST DIGIT

module _ (text : List ℕ) (start : ℕ) where
  pub first_missing : length text ≤ start → numeral most_size (line_at text start) ≡ none
  first_missing l = numeral_none most_size (line_at text start) (ap length (line_end text start l))

  module _ (l : start < length text) where
    begun : Scanning text start 0 start
    begun = scanning_start text start (omega arith)

    pub first_bad : is_digit (get_or text start 0) ≡ false → numeral most_size (line_at text start) ≡ none
    first_bad d =
        by_eq (get_or text start 0) newline
        (λ e _. no_digits begun (line_newline text start l e) (omega arith))
        (λ e _. no_digit begun l d e)

    pub first_good : is_digit (get_or text start 0) ≡ true → Scanning text start (digit_at text start) (start + 1)
    first_good d =
        let most = inside_high 48 57 (get_or text start 0) d in
        let same : 0 * 10 + digit_at text start ≡ digit_at text start = omega arith in
        rw same at (scanning_more begun l d (omega arith))

  -- where the line is known to hold a number
  module _ (known : is_fit (numeral most_size (line_at text start)) ≡ true) where
    pub first_inside : start < length text
    first_inside = by_lt start (length text) (λ l _. l) (λ l _. not_both known (ap is_fit (first_missing l)))

    pub first_known : is_digit (get_or text start 0) ≡ true
    first_known = by_bool (is_digit (get_or text start 0)) (λ d. d) (λ d. not_both known (ap is_fit (first_bad first_inside d)))

-- AN ENTRY IS A MINUS, OR NONE, AND A NUMBER

fit_signed : (s : Bool) (o : Option ℕ) → is_fit (signed s o) ≡ is_fit o
fit_signed s none = refl
fit_signed s (some n) = refl

scan_signed : {text : List ℕ} {at next : ℕ} (s : Bool) (o : Option ℕ) (r : Answer ℕ) → ((n : ℕ) → Past text next n → Past text at n) →
    Scans text next o r → Scans text at (signed s o) r
scan_signed s o (Some n) f h = (fit_signed s o ∙ h.0, f n h.1)
scan_signed s o None f h = ap (signed s) h

module _ (text : List ℕ) (at : ℕ) (in-text : at < length text) where
  module _ (minus : get_or text at 0 ≡ 45) where
    no_newline : get_or text at 0 ≡ newline → ⊥
    no_newline e = omega arith

    pub minus_line : entry (line_at text at) ≡ signed true (numeral most_size (line_at text (at + 1)))
    unfolding entry
    minus_line = rw (line_more text at in-text no_newline, eq-eqb (get_or text at 0) 45 minus)

    past_minus : (next : ℕ) → Past text (at + 1) next → Past text at next
    unfolding from
    past_minus next h =
        let same : from newline (drop at text) ≡ from newline (drop (at + 1) text) =
        rw (step text at in-text, ne_eqb (get_or text at 0) newline no_newline) in
        record { within = h.within; further = omega (arith, h.further); rest = h.rest ∙ sym (ap (drop 1) same) }

    pub scan_minus : (r : Answer ℕ) → Scans text (at + 1) (numeral most_size (line_at text (at + 1))) r →
        Scans text at (entry (line_at text at)) r
    scan_minus r h = rw minus_line (scan_signed true (numeral most_size (line_at text (at + 1))) r past_minus h)

    pub fit_minus : is_fit (entry (line_at text at)) ≡ true → is_fit (numeral most_size (line_at text (at + 1))) ≡ true
    fit_minus f = sym (ap is_fit minus_line ∙ fit_signed true (numeral most_size (line_at text (at + 1)))) ∙ f

    pub read_minus : (n : Number) (r : Entry) → Reads text (at + 1) (numeral most_size (line_at text (at + 1))) n →
        r.value ≡ signed_float true n.size →
        r.next ≡ n.next → Valued text at r
    read_minus n r h e q =
        record {
          value = e ∙ sym (ap value_of (minus_line ∙ ap (signed true) h.number));
          past = rw q (past_minus n.next h.past);
        }

  module _ (plain : get_or text at 0 ≡ 45 → ⊥) where
    pub plain_line : entry (line_at text at) ≡ signed false (numeral most_size (line_at text at))
    unfolding entry
    plain_line =
        by_eq (get_or text at 0) newline
        (λ e _. rw (line_newline text at in-text e, numeral_none most_size [] refl))
        (λ e _. rw (line_more text at in-text e, ne_eqb (get_or text at 0) 45 plain))

    pub scan_plain : (r : Answer ℕ) → Scans text at (numeral most_size (line_at text at)) r → Scans text at (entry (line_at text at)) r
    scan_plain r h = rw plain_line (scan_signed false (numeral most_size (line_at text at)) r (λ n p. p) h)

    pub fit_plain : is_fit (entry (line_at text at)) ≡ true → is_fit (numeral most_size (line_at text at)) ≡ true
    fit_plain f = sym (ap is_fit plain_line ∙ fit_signed false (numeral most_size (line_at text at))) ∙ f

    pub read_plain : (n : Number) (r : Entry) → Reads text at (numeral most_size (line_at text at)) n → r.value ≡ signed_float false
        n.size →
        r.next ≡ n.next → Valued text at r
    read_plain n r h e q =
        record {
          value = e ∙ sym (ap value_of (plain_line ∙ ap (signed false) h.number));
          past = rw q h.past;
        }
