use Rattle.std.proofs.Common.{◌≡◌, Some, rules, ap, sym, ◌∙◌}
use Rattle.std.specs.Prelude.{option_copied}
use Rattle.http_uri.specs.Uri.{uri_scheme, uri_authority, uri_data, uri_path_and_query}
use Rattle.pp_target.proofs.KeyLemmas.{parts_due}
use Rattle.pp_target.proofs.target.write_uri.Goals as goal

pub returns : goal.returns
returns c =
    let s = c.in-Some-Some-Some.scheme.now in
    let a = c.in-Some-Some-Some.authority.now in
    let p = c.in-Some-Some-Some.path.now in
    let scheme : uri_scheme c.args.uri.now ≡ Some s = sym c.scheme_str.ensures.value ∙ ap option_copied c.in-Some-Some-Some.is-0 in
    let authority : uri_authority c.args.uri.now ≡ Some a = sym c.authority.ensures ∙ ap option_copied c.in-Some-Some-Some.is-1 in
    let path : uri_path_and_query c.args.uri.now ≡ Some p = sym c.path_and_query.ensures ∙ ap option_copied c.in-Some-Some-Some.is-2 in
    rw (
      parts_due (uri_scheme c.args.uri.now) (uri_authority c.args.uri.now) s a p (uri_data c.args.uri.now) scheme authority path,
      ← c.as_str.ensures.value,
      ← c.as_str-2.ensures.value,
    ) c.write_key.ensures
