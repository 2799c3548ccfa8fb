-- `records::put_known` meets its contract: three numbers, and then the word for near or far. Assumes nothing.
use mathlib.Core.Path.{◌≡◌, sym, ap, ◌∙◌}
use mathlib.Core.Bool.{Bool}
use mathlib.Core.List.{List, ◌++◌}
use Prim.Native.Nat.{ℕ}
use Rattle.text.specs.Text.{decimal, spaced, put}
use Rattle.text.proofs.Putting.{put_then}
use Rattle.vectors.specs.declared.Known.{Known}
use Rattle.records.specs.Text.{nearness, known_line}
use Rattle.records.proofs.put_known.Goals as goal

-- three numbers and the word are the whole line
whole : (k : Known) {near : Bool} (a : ℕ) {b c d e : ℕ} (l : List ℕ) {m n o p : List ℕ} → k.near ≡ near →
    (b, m) ≡ put a (decimal k.index) l →
    (c, n) ≡ put b (spaced k.case) m → (d, o) ≡ put c (spaced k.reference) n → (e, p) ≡ put d (nearness near) o →
    (e, p) ≡ put a (known_line k) l
unfolding known_line
whole k {near} a {b} {c} {d} {e} l {m} {n} {o} {p} is f g h i =
    let word = i ∙ ap (λ (t : Bool). put d (nearness t) o) (sym is) in
    put_then a (decimal k.index) (spaced k.case ++ (spaced k.reference ++ nearness k.near)) l f
    (put_then b (spaced k.case) (spaced k.reference ++ nearness k.near) m g (put_then c (spaced k.reference) (nearness k.near) n h word))

pub returns-then-known-clause-put : goal.returns-then-known-clause-put
returns-then-known-clause-put c =
    whole c.args.known _ _ c.if-known.true c.put_number.ensures.put c.put_next.ensures.put c.put_next-2.ensures.put c.put.ensures.put

pub returns-else-known-clause-put : goal.returns-else-known-clause-put
returns-else-known-clause-put c =
    whole c.args.known _ _ c.if-known.false c.put_number.ensures.put c.put_next.ensures.put c.put_next-2.ensures.put
    c.put-else-known.ensures.put
