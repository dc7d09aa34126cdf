-- Each kind's bit follows from how many bits are 1.
use Rattle.std.proofs.Common.{◌≡◌, Bool, true, eqb, ltb, ◌⊎◌, List, length, sym, inl, inr, arith}
use Rattle.std.proofs.lemmas.Bool.{eqb-true}
use Rattle.std.proofs.lemmas.Bool.Decides.{nat_tests}
use Rattle.circuits.specs.Kinds.{fits, gate_bit, ones}
use Rattle.circuits.specs.declared.kind.Kind.{Kind}
use Rattle.circuits.specs.declared.kind.Kind.TheVariants.{Or, Nor, Buf, Not}
use Rattle.circuits.proofs.Ones.{every_by_ones, some_by_ones, odd_by_ones, only_by_ones}
use Rattle.circuits.proofs.kind.Kind.bit.Goals as goal

-- the kinds that are 1 where some pin receives 1
some_one : (k : Kind) (bs : List Bool) → fits k (length bs) ≡ true → (k ≡ Or) ⊎ (k ≡ Buf) → ltb 0 (ones bs) ≡ gate_bit k bs
some_one k bs fit (inl e) = rw e (sym (some_by_ones bs))
some_one k bs fit (inr e) = rw e (sym (only_by_ones bs (eqb-true (length bs) 1 (rw e at fit))))

-- and those that are 0 there
no_one : (k : Kind) (bs : List Bool) → fits k (length bs) ≡ true → (k ≡ Nor) ⊎ (k ≡ Not) → eqb (ones bs) 0 ≡ gate_bit k bs
no_one k bs fit (inl e) = rw e (let h = some_by_ones bs in grind (arith, nat_tests))
no_one k bs fit (inr e) = rw e (let h = only_by_ones bs (eqb-true (length bs) 1 (rw e at fit)) in grind (arith, nat_tests))

pub returns-in-And : goal.returns-in-And
returns-in-And c bs long count fit = let h = every_by_ones bs in grind (arith, nat_tests)

pub returns-in-Nand : goal.returns-in-Nand
returns-in-Nand c bs long count fit = let h = every_by_ones bs in grind (arith, nat_tests)

pub returns-in-Or : goal.returns-in-Or
returns-in-Or c bs long count fit = rw (← count) (some_one c.args.self bs (rw (← long) at fit) c.in-Or.is)

pub returns-in-Nor : goal.returns-in-Nor
returns-in-Nor c bs long count fit = rw (← count) (no_one c.args.self bs (rw (← long) at fit) c.in-Nor.is)

pub returns-in-Xor : goal.returns-in-Xor
returns-in-Xor c bs long count fit = let h = odd_by_ones bs in grind (arith, nat_tests)

pub returns-in-Xnor : goal.returns-in-Xnor
returns-in-Xnor c bs long count fit = let h = odd_by_ones bs in grind (arith, nat_tests)
