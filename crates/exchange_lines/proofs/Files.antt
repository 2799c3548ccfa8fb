-- The lines before the entries, one after the other: what each line that is cut off the text says of the rest. Assumes nothing.
use mathlib.Core.Path.{◌≡◌, refl, sym, ◌∙◌}
use mathlib.Core.Bool.{Bool, true, false}
use mathlib.Core.List.{List, [], ◌∷◌}
use mathlib.Core.Option.{none, some}
use Prim.Native.Nat.{ℕ, zero, suc, ◌+◌, ◌-◌, ◌<◌, ◌≤◌}
use native.Mathlib.Nat.{not-suc-le-zero}
use native.Mathlib.Omega.{arith}
use lib.ListN.{length, take, drop}
use Rattle.common.specs.Refusals.{no_first_line, no_size}
use Rattle.common.proofs.Cases.{by_lt, not_both}
use Rattle.exchange_format.specs.Lines.{lines, same}
use Rattle.exchange_format.specs.Words.{is_first, is_passed, size}
use Rattle.exchange_format.specs.Reading.{refuse, give, opened, size_line, opening}
use Rattle.exchange_lines.specs.Working.{Cut, size_of, opened_at}
use Rattle.exchange_lines.specs.declared.sizes.Sizes.{Sizes}
use Rattle.exchange_lines.proofs.Scanning.{lines_none, lines_some}

-- THE CUT LINE is the first of the lines, and the others are those that go on from there
module _ (text : List ℕ) (at end next : ℕ) (c : Cut text at end next) where
  pub cut_lines : at < length text → lines (drop at text) ≡ take (end - at) (drop at text) ∷ lines (drop next text)
  cut_lines h = rw (c.line, c.rest) (lines_some text at h)

-- THE SIZE LINE

module _ (k : ℕ) (l : List ℕ) where
  pub size_bad : (ls : List (List ℕ)) → none ≡ size l → refuse no_size k ≡ opened k (size l) ls
  size_bad ls e = rw (← e)

  pub size_good : (at : ℕ) (text : List ℕ) (s : Sizes) → some (size_of s) ≡ size l →
      give (opened_at text s (record { at = at; line = k + 1 })) ≡ opened k (size l) (lines (drop at text))
  size_good at text s e = rw (← e)

module _ (k : ℕ) (text : List ℕ) (at : ℕ) where
  pub size_missing : length text ≤ at → refuse no_size k ≡ size_line k (lines (drop at text))
  unfolding size_line
  size_missing h = rw (lines_none text at h)

  module _ (end next : ℕ) (c : Cut text at end next) (h : at < length text) (r : Bool)
      (e : r ≡ is_passed (take (end - at) (drop at text))) where
    pub size_later : r ≡ true → size_line (k + 1) (lines (drop next text)) ≡ size_line k (lines (drop at text))
    unfolding size_line
    size_later t = let p : is_passed (take (end - at) (drop at text)) ≡ true = sym e ∙ t in rw (cut_lines text at end next c h, p)

    pub size_here : r ≡ false → opened k (size (take (end - at) (drop at text))) (lines (drop next text)) ≡ size_line k
        (lines (drop at text))
    unfolding size_line
    size_here t = let p : is_passed (take (end - at) (drop at text)) ≡ false = sym e ∙ t in rw (cut_lines text at end next c h, p)

-- THE FIRST LINE

-- an empty text has an empty first line
no_first : (end : ℕ) (text : List ℕ) → length text ≤ 0 → is_first (take end text) ≡ false
unfolding is_first same
no_first zero [] h = refl
no_first (suc end) [] h = refl
no_first end (x ∷ text) h = absurd (not-suc-le-zero h)

module _ (text : List ℕ) (end next : ℕ) (c : Cut text 0 end next) (r : Bool) (e : r ≡ is_first (take end text)) where
  first_lines : 0 < length text → lines text ≡ take end text ∷ lines (drop next text)
  first_lines h = let none : end - 0 ≡ end = omega arith in rw none at (cut_lines text 0 end next c h)

  pub first_good : r ≡ true → size_line 2 (lines (drop next text)) ≡ opening (lines text)
  unfolding opening
  first_good t =
      let p : is_first (take end text) ≡ true = sym e ∙ t in
      by_lt 0 (length text)
      (λ h _. let l = first_lines h in rw (l, p))
      (λ h _. not_both p (no_first end text h))

  pub first_bad : r ≡ false → refuse no_first_line 1 ≡ opening (lines text)
  unfolding opening
  first_bad t =
      let p : is_first (take end text) ≡ false = sym e ∙ t in
      by_lt 0 (length text)
      (λ h _. let l = first_lines h in rw (l, p))
      (λ h _. let l = lines_none text 0 h in rw l)
