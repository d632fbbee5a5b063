-- What is to be written of n is what is to be written of m before the digits that stand.
use Rattle.ink.specs.Laws.{Counting}
use Rattle.ink.proofs.digits.Given as goal

abbrev pub invariant-loop-k : goal.invariant-loop-k
invariant-loop-k l = Counting l.n l.d l.k l.m
