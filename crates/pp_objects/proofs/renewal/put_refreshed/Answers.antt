use Rattle.pp_objects.specs.Kept.{lasting_of, renewal_of}
use Rattle.pp_objects.proofs.TextLemmas.{on_err, on_err_so, on_ok_so, adds_both, room_first, room_second}
use Rattle.pp_objects.proofs.renewal.put_refreshed.Goals as goal

pub returns-in_err-put_chosen-clause-full : goal.returns-in_err-put_chosen-clause-full
returns-in_err-put_chosen-clause-full c =
    on_err c.from_residual.result (λ room. c.in_err-put_chosen.ensures.full (room_first c.args.text.now (lasting_of c.args.kept.now) (renewal_of c.args.kept.now c.args.fields.now c.args.times) room))

pub returns-clause-ok : goal.returns-clause-ok
returns-clause-ok c =
    on_ok_so c.put_renewal.result (adds_both c.args.text.now c.put_chosen.new.text c.put_renewal.new.text (lasting_of c.args.kept.now) (renewal_of c.args.kept.now c.args.fields.now c.args.times) c.in_ok-put_chosen.ensures.ok) c.put_renewal.ensures.ok

pub returns-clause-full : goal.returns-clause-full
returns-clause-full c =
    on_err_so c.put_renewal.result (λ full room. full (room_second c.args.text.now c.put_chosen.new.text (lasting_of c.args.kept.now) (renewal_of c.args.kept.now c.args.fields.now c.args.times) c.in_ok-put_chosen.ensures.ok room)) c.put_renewal.ensures.full
