use Rattle.std.proofs.Common.{refl}
use Rattle.cert_making.proofs.Wholes.{target_broken, target_more}
use Rattle.cert_making.proofs.putting.put_target.Goals as goal

pub returns-in_err-put_layer : goal.returns-in_err-put_layer
returns-in_err-put_layer g c = target_broken c.args.model.now _ _ _ _ _ _ c.from_residual.result refl c.from_residual.ensures.1 c.in_err-put_layer.ensures

pub returns : goal.returns
returns g c = target_more c.args.model.now _ _ _ _ _ _ _ _ c.put_last.result refl c.in_ok-put_layer.ensures c.put_last.ensures
