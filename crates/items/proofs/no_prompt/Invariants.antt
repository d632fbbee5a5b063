use Rattle.std.proofs.Common.{◌≡◌}
use Rattle.text.specs.Bytes.{bytes}
use Rattle.text.specs.Text.{find_in}
use Rattle.items.proofs.no_prompt.Given as goal

abbrev pub invariant-loop-i : goal.invariant-loop-i
invariant-loop-i l = (find_in (bytes ">") l.s l.e ≡ find_in (bytes ">") l.s l.i) × (find_in (bytes "@") l.s l.e ≡ find_in (bytes "@") l.s l.i)
