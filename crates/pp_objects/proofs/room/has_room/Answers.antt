use Rattle.std.proofs.Common.{◌≡◌, ◌-◌, ◌^◌, ◌++◌, ℕ, List, min, length, codes, arith, sym, ◌∙◌, ap}
use Rattle.std.specs.Prelude.{nat_le}
use Rattle.std.proofs.lemmas.Bool.Decides.{nat_tests}
use Rattle.pp_text.specs.Fields.{Field}
use Rattle.pp_text.specs.Lines.{lines_of}
use Rattle.pp_valid.specs.Kept.{date_value}
use Rattle.pp_objects.specs.Kept.{date_field, latest, renewal_of}
use Rattle.pp_objects.proofs.TextLemmas.{latest_is}
use Rattle.pp_objects.proofs.Refreshing.{lines-append}
use Rattle.pp_objects.proofs.room.has_room.Goals as goal

within : (s n : ℕ) → s ≡ min n (2 ^ 64 - 1) → nat_le s 2048 ≡ nat_le n 2048
within s n e = grind (arith, nat_tests, e)

pub returns : goal.returns
returns c =
    let date = date_field (date_value c.args.fields.now) c.args.times.response in
    let expires = latest (codes "expires") c.args.kept.now c.args.fields.now in
    let control = latest (codes "cache-control") c.args.kept.now c.args.fields.now in
    let d : c.date_len-date.result ≡ min (length (lines_of date)) (2 ^ 64 - 1) = c.date_len-date.ensures in
    let e : c.latest_len-expires.result ≡ min (length (lines_of expires)) (2 ^ 64 - 1) =
    c.latest_len-expires.ensures ∙ ap (λ (fs : List Field). min (length (lines_of fs)) (2 ^ 64 - 1)) (sym (latest_is (codes "expires") c.args.kept.now c.args.fields.now)) in
    let f : c.latest_len-control.result ≡ min (length (lines_of control)) (2 ^ 64 - 1) =
    c.latest_len-control.ensures ∙ ap (λ (fs : List Field). min (length (lines_of fs)) (2 ^ 64 - 1)) (sym (latest_is (codes "cache-control") c.args.kept.now c.args.fields.now)) in
    within c.saturating_add-2.result (length (lines_of (renewal_of c.args.kept.now c.args.fields.now c.args.times)))
    (omega (arith, d, e, f, c.saturating_add.ensures, c.saturating_add-2.ensures, lines-append (date ++ expires) control, lines-append date expires))
