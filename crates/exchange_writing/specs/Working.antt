-- What the code that measures and writes lines answers and leaves. No public call's contract cites it.
use Rattle.std.specs.Prelude.{ℕ, suc, Bool, true, false, cond, List, [], ◌∷◌, ◌++◌, map, length, ℤ, pos, negsuc, Float}
use Rattle.std.specs.Prelude.{Some, None}
use Rattle.std.specs.Prelude.{Option as Answer}
use Rattle.std.proofs.Math.Option.{Option, some, none}
use Rattle.std.specs.Float.Ieee.{in_unsigned, to_unsigned}
use Rattle.std.specs.Float.{binary64}
use Rattle.text.specs.Text.{decimal}
use Rattle.exchange_format.specs.Lines.{newline, space}
use Rattle.exchange_format.specs.Words.{banner, kind}
use Rattle.exchange_format.specs.Reading.{Outcome, refuse, give}
use Rattle.exchange_format.specs.Writing.{integer, unlines, whole_of}
use Rattle.exchange_writing.specs.declared.wholes.Whole.{Whole}

-- a float that is a whole number up to 2 ^ 53 and has no minus
unfoldable pub size_in : Float → Option ℕ
size_in x = cond (in_unsigned binary64 64 x) (some (to_unsigned 64 x)) none

abbrev pub number_of : Option ℤ → Answer Whole
number_of none = None
number_of (some (pos n)) = Some (record { is_negative = false; size = n })
number_of (some (negsuc n)) = Some (record { is_negative = true; size = suc n })

-- the line of an entry, with its newline; none where it is refused
abbrev pub spell : Option ℤ → List ℕ
spell none = []
spell (some z) = integer z ++ newline ∷ []

abbrev pub spelt : Float → List ℕ
spelt x = spell (whole_of x)

unfoldable pub spelled : List Float → List ℕ
spelled [] = []
spelled (x ∷ xs) = spelt x ++ spelled xs

abbrev pub minus : Bool → List ℕ
minus true = 45 ∷ []
minus false = []

abbrev pub signed_line : Bool → ℕ → List ℕ
signed_line s n = (minus s ++ decimal n) ++ newline ∷ []

-- the first line and the size line, each with its newline
unfoldable pub head_text : (rows columns : ℕ) → List ℕ
head_text r c = ((((banner ++ kind ++ newline ∷ []) ++ decimal r) ++ space ∷ []) ++ decimal c) ++ newline ∷ []

-- how long the entries' lines are, or their first fault
abbrev pub measured : Outcome (List ℤ) → Outcome ℕ
measured (refuse n k) = refuse n k
measured (give xs) = give (length (unlines (map integer xs)))
