-- Six angles, the flag's digit, and the end of the line.
use Rattle.std.proofs.Common.{◌≡◌, ℕ, ◌+◌, ◌*◌, ◌-◌, ◌%◌, List, [], ◌∷◌, ◌++◌, take, drop, get_or, arith}
use mathlib.Core.List.{flat_map}
use lib.Ieee.{Float}
use Rattle.text.specs.Text.{text, glyph, digits}
use Rattle.text.specs.Lists.{angle, line, line_at}
use Rattle.text.proofs.Laws.{both}
use Rattle.text.proofs.lists.line_at.Goals as goal

met : (list : List Float) (flags : List ℕ) (i : ℕ) (l : List ℕ) {f g : ℕ} {l1 l2 l3 : List ℕ}
    → f ≡ get_or flags i 0
    → g ≡ glyph (f % 10)
    → l1 ≡ l ++ flat_map angle (take (6 * i + 6 - 6 * i) (drop (6 * i) list))
    → l2 ≡ l1 ++ g ∷ []
    → l3 ≡ l2 ++ 10 ∷ []
    → l3 ≡ l ++ line_at list flags i
unfolding line_at line digits
met list flags i l e-f e-g p1 p2 p3 =
    let six : 6 * i + 6 - 6 * i ≡ 6 = omega arith in
    let six_angles = flat_map angle (take 6 (drop (6 * i) list)) in
    let digit = digits 10 1 (get_or flags i 0) in
    both (six_angles ++ digit) (text "\n") l (both six_angles digit l (rw six at p1) (rw (e-g, e-f) at p2)) p3

pub returns-clause-items : goal.returns-clause-items
returns-clause-items c = met c.args.list.now c.args.flags.now c.args.i _ c.from.ensures c.glyph.ensures c.angles.ensures.items c.push.ensures.items c.push-2.ensures.items
