use Rattle.std.proofs.Common.{arith}
use Rattle.circuits.specs.Circuits.{net}
use Rattle.circuits.proofs.Working.{inputs_more, gates_none, gates_more, gates_all, gate_next}
use Rattle.circuits.proofs.circuit.Circuit.stem_bits.Goals as goal

pub loop-k-preserved : goal.loop-k-preserved
loop-k-preserved c = inputs_more _ _ _ _ _ (omega arith) (rw c.unwrap.ensures at c.push.ensures).1 c.loop-k.invariant

pub loop-gate-init : goal.loop-gate-init
loop-gate-init c = gates_none (net c.args.self.now) _ _ c.loop-k.k (omega arith) c.loop-k.invariant

pub work_out-bit-requires : goal.work_out-bit-requires
work_out-bit-requires c =
    rw c.as_slice.ensures (gate_next (net c.args.self.now) c.args.assignment _ c.loop-gate.gate-index c.gate-item.result c.requires.legal (rw (← c.deref-gate-items.ensures.value) c.loop-gate-test.true) (rw (← c.deref-gate-items.ensures.value) c.gate-item.is) c.loop-gate.invariant)

pub loop-gate-preserved : goal.loop-gate-preserved
loop-gate-preserved c =
    gates_more (net c.args.self.now) c.args.assignment _ _ c.loop-gate.gate-index c.gate-item.result c.work_out-bit.result (rw (← c.deref-gate-items.ensures.value) c.loop-gate-test.true) (rw (← c.deref-gate-items.ensures.value) c.gate-item.is)
    (rw (← c.as_slice.ensures) (c.work_out-bit.ensures c.loop-gate.gate-index)) (rw c.unwrap-in-loop-gate.ensures at c.push-in-loop-gate.ensures).1 c.loop-gate.invariant

pub returns : goal.returns
returns c = gates_all (net c.args.self.now) c.args.assignment _ c.loop-gate.gate-index (rw (← c.deref-gate-items.ensures.value) c.loop-gate-test.false) c.loop-gate.invariant
