use Rattle.std.proofs.Common.{refl}
use Rattle.calls.proofs.request.Request.named.Goals as goal

pub returns-in-xor : goal.returns-in-xor
returns-in-xor c = record { word = c.in-xor.is; numbers = (refl, refl) }
