-- The list reader and the element reader meet their contracts: each way out is a law of Cycle. The measure is what is left of the payload, twice, so that a list
-- stands above the element at its place.
use mathlib.Core.Path.{sym, ◌∙◌}
use native.Mathlib.Omega.{arith}
use Rattle.lists.specs.Calls.{told_byte}
use Rattle.lists.specs.Cycle.{place_within, no_space, too_deep_lem, too_late}
use Rattle.lists.proofs.+read_element_read_list.Goals as goal

pub read_element-read_plain-requires : goal.read_element-read_plain-requires
read_element-read_plain-requires g t c =
    let pre = c.requires in let q = c.skip-place.ensures in ((place_within _ _ _ q pre.0).1, (pre.1.1, (no_space _ _ _ q, λ e. c.if-byte_at-ne40.true (c.byte_at.ensures ∙ e))))

pub read_element-returns-then-depth-ge-DEEPEST : goal.read_element-returns-then-depth-ge-DEEPEST
read_element-returns-then-depth-ge-DEEPEST g t c =
    too_deep_lem _ _ _ c.skip-place.ensures _ _ g.K.Keeps.put c.args.elements.now (sym c.byte_at.ensures ∙ c.if-byte_at-ne40.false) c.if-depth-ge-DEEPEST.true

pub read_element-returns-then-n-ge-MOST : goal.read_element-returns-then-n-ge-MOST
read_element-returns-then-n-ge-MOST g t c =
    too_late _ _ _ c.skip-place.ensures _ _ g.K.Keeps.put c.args.elements.now (sym c.byte_at.ensures ∙ c.if-byte_at-ne40.false) (omega arith) c.if-n-ge-MOST.true

pub read_element-read_list-requires : goal.read_element-read_list-requires
read_element-read_list-requires g t c =
    let place = c.skip-place.result in
    let there = told_byte c.args.s.now place 39 (sym c.byte_at.ensures ∙ c.if-byte_at-ne40.false) in
    let within = place_within c.args.s.now c.args.at place c.skip-place.ensures c.requires.0 in
    λ κs h. (omega (arith, there, within.0, c.decreases), (h, (omega (arith, there), (omega arith, omega arith))))
