-- `mending::fits` meets its contract: the room suffices for any text of so many records, or it is held against the text. Assumes nothing.
use mathlib.Core.Path.{sym}
use native.Mathlib.Omega.{arith}
use borrow.Author.Tests.{le-leb}
use lib.ListN.{length}
use Rattle.mending.specs.Mending.{text}
use Rattle.mending.proofs.Lines.{text_most}
use Rattle.mending.proofs.fits.Goals as goal

pub returns-then-input-room : goal.returns-then-input-room
returns-then-input-room c =
    let a = c.args in
    let most = text_most a.input.now in
    sym (le-leb (length (text a.input.now)) a.room (omega arith))
