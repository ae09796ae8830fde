-- Scheme, host and port are the front of a key.
use Rattle.std.proofs.Common.{◌≡◌, ℕ, ◌+◌, List, ◌++◌, length, take, codes, ap, ◌∙◌, arith}
use Rattle.std.proofs.Math.Seq.{take-append_seam, take-append-add}
use Rattle.pp_cache.specs.Named.{site_of}
use Rattle.pp_target.specs.Key.{IsPlaceIn, Key, key_in, place_of, port_text, text_of}
use Rattle.pp_target.specs.declared.target.Place.{Place}

site_in_text : (k : Key) → take (place_of k).path (text_of k) ≡ site_of k
site_in_text k =
    let n = length k.host + length (port_text k.port) in
    let from : 7 + length k.host + length (port_text k.port) ≡ length (codes "http://") + n = omega arith in
    rw from (
    take-append-add (codes "http://") (k.host ++ (port_text k.port ++ k.path)) n
    ∙ ap (λ (t : List ℕ). codes "http://" ++ t) (
    take-append-add k.host (port_text k.port ++ k.path) (length (port_text k.port))
    ∙ ap (λ (t : List ℕ). k.host ++ t) (take-append_seam (port_text k.port) k.path)))

pub site_of_place : (text : List ℕ) (place : Place) → IsPlaceIn text place → take place.path text ≡ site_of (key_in text place)
site_of_place text place p =
    ap (λ (q : Place). take q.path text) p.placed
    ∙ ap (λ (t : List ℕ). take (place_of (key_in text place)).path t) p.spelled
    ∙ site_in_text (key_in text place)
