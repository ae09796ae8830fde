use Rattle.std.proofs.Common.{◌++◌, List, codes, sym, subst}
use Rattle.pp_text.specs.Fields.{Field}
use Rattle.pp_valid.specs.Kept.{date_value}
use Rattle.pp_objects.specs.Kept.{date_field, latest}
use Rattle.pp_objects.specs.Texts.{AddsFields, HasRoomFor}
use Rattle.pp_objects.proofs.TextLemmas.{on_err, on_err_so, on_ok_so, adds_both, room_first, room_second, latest_is}
use Rattle.pp_objects.proofs.renewal.put_renewal.Goals as goal

pub returns-in_err-put_latest-clause-full : goal.returns-in_err-put_latest-clause-full
returns-in_err-put_latest-clause-full c =
    let date = date_field (date_value c.args.fields.now) c.args.times.response in
    let expires = latest (codes "expires") c.args.kept.now c.args.fields.now in
    let control = latest (codes "cache-control") c.args.kept.now c.args.fields.now in
    let P : List Field → Type 0 = λ fs. HasRoomFor fs c.put_date.new.text in
    on_err c.from_residual-in_err-put_latest.result (λ room. c.in_err-put_latest.ensures.full
    (subst P (latest_is (codes "expires") c.args.kept.now c.args.fields.now)
    (room_second c.args.text.now c.put_date.new.text date expires c.in_ok-put_date.ensures.ok (room_first c.args.text.now (date ++ expires) control room))))

pub returns-clause-ok : goal.returns-clause-ok
returns-clause-ok c =
    let date = date_field (date_value c.args.fields.now) c.args.times.response in
    let expires = latest (codes "expires") c.args.kept.now c.args.fields.now in
    let control = latest (codes "cache-control") c.args.kept.now c.args.fields.now in
    let P : List Field → Type 0 = λ fs. AddsFields c.put_date.new.text c.put_latest.new.text fs in
    let Q : List Field → Type 0 = λ fs. AddsFields c.put_latest.new.text c.put_latest-2.new.text fs in
    on_ok_so c.put_latest-2.result (λ last. adds_both c.args.text.now c.put_latest.new.text c.put_latest-2.new.text (date ++ expires) control
    (adds_both c.args.text.now c.put_date.new.text c.put_latest.new.text date expires c.in_ok-put_date.ensures.ok
    (subst P (sym (latest_is (codes "expires") c.args.kept.now c.args.fields.now)) c.in_ok-put_latest.ensures.ok))
    (subst Q (sym (latest_is (codes "cache-control") c.args.kept.now c.args.fields.now)) last)) c.put_latest-2.ensures.ok

pub returns-clause-full : goal.returns-clause-full
returns-clause-full c =
    let date = date_field (date_value c.args.fields.now) c.args.times.response in
    let expires = latest (codes "expires") c.args.kept.now c.args.fields.now in
    let control = latest (codes "cache-control") c.args.kept.now c.args.fields.now in
    let P : List Field → Type 0 = λ fs. AddsFields c.put_date.new.text c.put_latest.new.text fs in
    let Q : List Field → Type 0 = λ fs. HasRoomFor fs c.put_latest.new.text in
    on_err_so c.put_latest-2.result (λ full room. full (subst Q (latest_is (codes "cache-control") c.args.kept.now c.args.fields.now)
    (room_second c.args.text.now c.put_latest.new.text (date ++ expires) control
    (adds_both c.args.text.now c.put_date.new.text c.put_latest.new.text date expires c.in_ok-put_date.ensures.ok
    (subst P (sym (latest_is (codes "expires") c.args.kept.now c.args.fields.now)) c.in_ok-put_latest.ensures.ok)) room))) c.put_latest-2.ensures.full
