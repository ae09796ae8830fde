-- What a parsed URI of http_uri says of a target, in the words of this crate's reader.
use Rattle.std.specs.Prelude.{◌≡◌, ℕ, ◌≤◌, ◌⊎◌, List, length, Option, Some, None, Result, Ok, Err}
use Rattle.http_uri.specs.declared.uri.Uri.{Uri}
use Rattle.http_uri.specs.Uri.{uri_scheme, uri_authority, uri_data}
use Rattle.pp_target.specs.declared.target.TargetFault.{TargetFault}
use Rattle.pp_target.specs.declared.target.TargetFault.TheVariants.{NotAbsolute, OutOfMemory}
use Rattle.pp_target.specs.declared.target.Place.{Place}
use Rattle.pp_target.specs.Absolute.{Absolute, absolute_at}
use Rattle.pp_target.specs.Key.{Key, key_in, place_of, text_of, IsPlaceIn}

abbrev pub absolute_of : Option (List ℕ) → Option (List ℕ) → List ℕ → Option Absolute
absolute_of (Some scheme) (Some authority) path = Some (record { scheme = scheme; authority = authority; path = path })
absolute_of (Some scheme) None path = None
absolute_of None authority path = None

-- the parts of a URI that is absolute
abbrev pub parts_of : Uri → Option Absolute
parts_of uri = absolute_of (uri_scheme uri) (uri_authority uri) (uri_data uri)

-- memory ran out, or the target is not absolute
abbrev pub IsUnparsed : List ℕ → TargetFault → Type 0
IsUnparsed target fault = (fault ≡ OutOfMemory) ⊎ ((fault ≡ NotAbsolute) × (absolute_at target ≡ None))

-- the text and the place are those of this key, and the text is short enough
abbrev pub IsSpelled : Key → List ℕ → Place → Type 0
IsSpelled key text place = (text ≡ text_of key) × (place ≡ place_of key) × (length text ≤ 8192)

-- the answer is what is due, and a key stands in `out`
abbrev pub IsDue : Result Key TargetFault → Result Place TargetFault → List ℕ → Type 0
IsDue due (Ok place) out = (due ≡ Ok (key_in out place)) × IsPlaceIn out place
IsDue due (Err fault) out = due ≡ Err fault
