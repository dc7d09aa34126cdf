use Rattle.std.proofs.Common.{◌≡◌, ◌-◌, ◌*◌, ◌/◌, ◌%◌, ◌^◌, ◌≤◌, refl, lit≤}
use Rattle.stores.specs.Functions.{points}
use Rattle.stores.proofs.WordBits.{upto_five}
use Rattle.stores.proofs.words.bits.full.Goals as goal

pub overflow_sub-result : goal.overflow_sub-result
overflow_sub-result c = upto_five (λ n. (2 * 2 ^ n) % 4294967296 ≤ 64) (lit≤ tt) (lit≤ tt) (lit≤ tt) (lit≤ tt) (lit≤ tt) (lit≤ tt) c.args.inputs c.requires

pub returns : goal.returns
returns c = upto_five (λ n. 18446744073709551615 / 2 ^ (64 - (2 * 2 ^ n) % 4294967296) ≡ 2 ^ points n - 1) refl refl refl refl refl refl c.args.inputs c.requires
