-- The comparisons say which whole number is nearest.
use Rattle.float.proofs.Reduction.{none, up_1, up_2, up_3, up_4, down_1, down_2, down_3, down_4}
use Rattle.float.proofs.sine.reduce.Goals as goal

pub returns-then-q-4 : goal.returns-then-q-4
returns-then-q-4 c = search up_4

pub returns-then-q-3 : goal.returns-then-q-3
returns-then-q-3 c = search up_3

pub returns-then-q-2 : goal.returns-then-q-2
returns-then-q-2 c = search up_2

pub returns-then-q : goal.returns-then-q
returns-then-q c = search up_1

pub returns-then-q-8 : goal.returns-then-q-8
returns-then-q-8 c = search down_4

pub returns-then-q-7 : goal.returns-then-q-7
returns-then-q-7 c = search down_3

pub returns-then-q-6 : goal.returns-then-q-6
returns-then-q-6 c = search down_2

pub returns-then-q-5 : goal.returns-then-q-5
returns-then-q-5 c = search down_1

pub returns : goal.returns
returns c = search none
