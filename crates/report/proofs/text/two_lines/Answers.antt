use native.Mathlib.Omega.{arith}
use mathlib.Core.Path.{refl}
use Rattle.report.proofs.Putting.{line_small, rest_room, lines_put}
use Rattle.report.proofs.text.two_lines.Goals as goal

pub slice_bounds-line_of-count : goal.slice_bounds-line_of-count
slice_bounds-line_of-count c = omega (arith, line_small c.line_of-n.ensures)

pub slice_bounds-line_of-start : goal.slice_bounds-line_of-start
slice_bounds-line_of-start c = omega (arith, line_small c.line_of-n.ensures)

pub line_of-m-requires : goal.line_of-m-requires
line_of-m-requires c = rest_room c.line_of-n.result c.line_of-n.new.out (line_small c.line_of-n.ensures) (omega (arith, c.requires))

pub overflow_add-result : goal.overflow_add-result
overflow_add-result c = omega (arith, line_small c.line_of-n.ensures, line_small c.line_of-m.ensures)

pub returns : goal.returns
returns c = lines_put _ _ _ _ _ _ _ _ c.line_of-n.ensures c.line_of-m.ensures refl
