use Rattle.watchdog.proofs.ask.watchdog.Goals as goal

pub returns : goal.returns
returns c = let a = c.args in
    record {
      builds = c.made.ensures a.work16.now a.work64.now c.is_short-lacks.ensures;
      cleared16 = c.clear.ensures.0;
      cleared64 = c.clear.ensures.1;
    }
