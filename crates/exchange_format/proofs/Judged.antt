-- A text is accepted, or refused, just as the format's parts say. Assumes nothing.
use Rattle.exchange_format.specs.Promises.{Judged}
use Rattle.exchange_format.proofs.Meant.{accepted, meaning}
use Rattle.exchange_format.proofs.Faults.{refused, fault}

pub judged : Judged
judged = record { accepted = accepted; meant = meaning; refused = refused; faulty = fault }
