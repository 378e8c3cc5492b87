use Rattle.solve_start.proofs.starts.find_target.Goals as goal

pub owner-owner-requires-clause-packed : goal.owner-owner-requires-clause-packed
owner-owner-requires-clause-packed g c =
    let fits = rw c.in-Ok-Open.field-0-is at c.in-Ok-Open.ensures.fits in
    (c.args.model.now, c.in_ok-of.ensures, fits.state)
