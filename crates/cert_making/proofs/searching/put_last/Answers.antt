use Rattle.std.proofs.Common.{refl}
use Rattle.cert_making.proofs.Wholes.{last_broken}
use Rattle.cert_making.proofs.searching.put_last.Goals as goal

pub returns-in_err-put_end : goal.returns-in_err-put_end
returns-in_err-put_end g c = last_broken _ _ _ _ c.args.layers _ c.from_residual.result c.from_residual.ensures.1 c.in_err-put_end.ensures

pub returns : goal.returns
returns g c =
    let puts = c.in_ok-put_end.ensures in
    record { whole = (refl, puts.ok); broken = tt; count = puts.count }
