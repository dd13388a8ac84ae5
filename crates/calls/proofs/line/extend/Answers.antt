use Prim.Native.Nat.{◌≤◌, ◌+◌}
use native.Mathlib.Omega.{arith}
use Rattle.std.specs.Vec.{vec_len}
use Rattle.std.proofs.lemmas.List.{length-take}
use Rattle.calls.proofs.line.extend.Goals as goal

pub returns : goal.returns
returns c h =
    let k : vec_len c.extend_from_slice.new.self ≤ vec_len c.args.line.now + c.min.result = grind (arith, length-take c.min.result c.args.piece.now, c.extend_from_slice.ensures.len) in
    omega (arith, h, k, c.len.ensures, c.saturating_sub-room.ensures, c.min.ensures)
