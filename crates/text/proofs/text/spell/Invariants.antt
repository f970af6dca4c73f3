-- `spell` writes the last digit first: what is left to write is the first digits, those of the rest.
use Rattle.std.proofs.Common.{◌≡◌, ◌-◌, length}
use Rattle.std.proofs.lemmas.List.Edits.{sets}
use Rattle.text.specs.Text.{digits}
use Rattle.text.proofs.text.spell.Given as goal

abbrev pub invariant-loop-i : goal.invariant-loop-i
invariant-loop-i l = record {
  written : sets l.out 0 (digits 10 (l.k - l.i) l.rest) ≡ sets l.initial.out 0 (digits 10 l.k l.n);
  long : length l.out ≡ length l.initial.out;
}
