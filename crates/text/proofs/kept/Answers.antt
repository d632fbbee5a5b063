-- `kept` meets its contract: what s keeps is what its first bytes keep, up to the last that is no blank.
use mathlib.Core.Path.{◌≡◌, sym, ap, ◌∙◌}
use Prim.Native.Nat.{ℕ, ◌+◌, ◌-◌}
use lib.ListN.{take}
use lib.Seq.{take-length}
use native.Mathlib.Omega.{arith}
use Rattle.text.specs.Text.{is_blank, keep}
use Rattle.text.specs.Steps.{keep_less, keep_stop}
use Rattle.text.proofs.kept.Goals as goal

pub loop-last-init : goal.loop-last-init
loop-last-init c = ap (keep (is_blank c.args.set)) (sym (take-length c.args.s.now))

pub returns-then-not-is_blank : goal.returns-then-not-is_blank
returns-then-not-is_blank c =
    let e : c.loop-last.last - 1 + 1 ≡ c.loop-last.last = omega arith in
    e ∙ sym (c.loop-last.invariant ∙ keep_stop _ c.args.s.now c.loop-last.last c.loop-last-test.true (omega arith) (sym c.is_blank.ensures ∙ c.if-not-is_blank.true))

pub loop-last-preserved : goal.loop-last-preserved
loop-last-preserved c =
    c.loop-last.invariant ∙ keep_less _ c.args.s.now c.loop-last.last c.loop-last-test.true (omega arith) (sym c.is_blank.ensures ∙ c.if-not-is_blank.false)

pub returns : goal.returns
unfolding keep
returns c =
    let z : c.loop-last.last ≡ 0 = omega arith in
    sym (c.loop-last.invariant ∙ ap (λ (n : ℕ). keep (is_blank c.args.set) (take n c.args.s.now)) z)
