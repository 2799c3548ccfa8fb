-- Mending a file of lookups, record by record: the mended file, what is said of it, and what the call answers and leaves.
use Rattle.std.specs.Prelude.{◌&&◌, List, [], ◌∷◌, ◌++◌, ℕ, zero, suc, ◌*◌, ◌/◌, eqb, leb, length, drop}
use Rattle.std.proofs.Math.Option.{Option}
use Rattle.common.specs.Refusals.{wrong_length, unless, left, answer}
use Rattle.records.specs.Text.{short}
use Rattle.mending_lines.specs.Records.{right, verdict, line}

-- A FILE: whole records, and a tail of fewer than eight bytes

abbrev pub whole : (file : List ℕ) → ℕ
whole l = length l / 8

-- the first so many records, each made right
unfoldable pub mended_records : (count : ℕ) → List ℕ → List ℕ
mended_records zero l = []
mended_records (suc n) l = right l ++ mended_records n (drop 8 l)

unfoldable pub mended_file : (file : List ℕ) → List ℕ
mended_file l = mended_records (whole l) l

-- the tail's line: "short" and how many bytes it has; none where it is empty
unfoldable pub tail_line : (tail : List ℕ) → List ℕ
tail_line [] = []
tail_line (b ∷ l) = short (suc (length l))

-- the lines of the first so many records, and the tail's
unfoldable pub lines : (count : ℕ) → List ℕ → List ℕ
lines zero l = tail_line l
lines (suc n) l = line (verdict l) ++ lines n (drop 8 l)

unfoldable pub text : (file : List ℕ) → List ℕ
text l = lines (whole l) l

-- THE CALL

-- the output has exactly the bytes of the whole records, and the text fits its room
unfoldable pub mend_number : (file : List ℕ) → (output room : ℕ) → ℕ
mend_number l output room = unless (eqb output (8 * whole l) && leb (length (text l)) room) wrong_length 0

-- what the call answers, how many bytes of text were written; the output after it, the mended file; and the text's memory, with the
-- text over its first bytes
unfoldable pub mend_call : (file output lines : List ℕ) → (ℕ × Option ℕ) × List ℕ × List ℕ
mend_call l o t =
    let n = mend_number l (length o) (length t) in
    (answer n (length (text l)), left n (mended_file l) o, left n (text l ++ drop (length (text l)) t) t)
