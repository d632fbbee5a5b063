-- `part` meets its contract: the two tests say whether the part fits.
use mathlib.Core.Path.{◌≡◌}
use Prim.Native.Nat.{◌+◌, ◌-◌}
use Rattle.text.specs.Laws.{part_none, part_is, part_front, part_on}
use native.Mathlib.Omega.{arith}
use Rattle.text.proofs.part.Goals as goal

pub returns-then-s-place : goal.returns-then-s-place
returns-then-s-place c =
    record {
      is = part_none c.args.s.now c.args.place c.args.len (omega arith);
      lies = part_front c.args.s.now c.args.place c.args.len c.args.s.ref_ptr (omega arith);
    }

pub returns-then-s-place-2 : goal.returns-then-s-place-2
returns-then-s-place-2 c =
    record {
      is = part_none c.args.s.now c.args.place c.args.len (omega arith);
      lies = part_front c.args.s.now c.args.place c.args.len c.args.s.ref_ptr (omega arith);
    }

pub returns : goal.returns
returns c =
    record {
      is = let e : c.args.place + c.args.len - c.args.place ≡ c.args.len = omega arith in rw e (part_is c.args.s.now c.args.place c.args.len (omega arith));
      lies = part_on c.args.s.now c.args.place c.args.len c.args.s.ref_ptr (omega arith);
    }
