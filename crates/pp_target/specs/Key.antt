-- The key of a target: the URL that its response is kept under (RFC 2616, sections 3.2.2, 3.2.3 and 5.1.2).
use Rattle.std.specs.Prelude.{◌≡◌, ℕ, ◌+◌, ◌<◌, ◌≤◌, Bool, not, ◌&&◌, ◌||◌, ◌==◌, nat_lt, nat_le, if◌then◌else◌, List, [], ◌∷◌, ◌++◌, length, drop, slice_index, slice_range, codes, bytes_eq, Option, Some, None, Result, Ok, Err}
use Rattle.std.specs.List.{list_any}
use Rattle.std.specs.Fmt.{decimal}
use Rattle.http_uri.specs.ByteClasses.{split_once_front, split_once_back, at_sign, colon, left_bracket, slash}
use Rattle.pp_text.specs.Bytes.{is_empty, lower}
use Rattle.pp_text.specs.Numbers.{number_of}
use Rattle.pp_target.specs.declared.target.TargetFault.{TargetFault}
use Rattle.pp_target.specs.declared.target.TargetFault.TheVariants.{NotAbsolute, NotHttp, BadHost, BadPort, TooLong}
use Rattle.pp_target.specs.declared.target.Place.{Place}
use Rattle.pp_target.specs.Absolute.{Absolute, absolute_at}

pub record Key : Type 0 where
  pub host : List ℕ  -- in lower case
  pub port : ℕ
  pub path : List ℕ  -- path and query

-- "A port that is empty or not given is equivalent to the default port" (section 3.2.3)
abbrev pub port_text : ℕ → List ℕ
port_text port = if port == 80 then [] else 58 ∷ decimal port

-- http_URL = "http:" "//" host [ ":" port ] [ abs_path [ "?" query ]]
abbrev pub text_of : Key → List ℕ
text_of key = codes "http://" ++ (key.host ++ (port_text key.port ++ key.path))

-- where the parts of a key stand in its text
abbrev pub place_of : Key → Place
place_of key = record { host = (7, 7 + length key.host); port = key.port; path = 7 + length key.host + length (port_text key.port) }

-- the key whose parts stand at this place of a text
abbrev pub key_in : List ℕ → Place → Key
key_in text place = record { host = slice_range text place.host.0 place.host.1; port = place.port; path = drop place.path text }

abbrev pub host_in : List ℕ → List ℕ
host_in authority = split_once_front colon authority

-- an `@` ends user information, and a `[` begins an IPv6 literal
abbrev pub has_mark : List ℕ → Bool
has_mark authority = list_any (λ b. (b == at_sign) || (b == left_bracket)) authority

-- ours: a host is named alone, in at most 255 bytes
abbrev pub is_host : List ℕ → Bool
is_host authority =
    (not (is_empty (host_in authority)) && nat_le (length (host_in authority)) 255)
    && not (has_mark authority)

-- port = *DIGIT, and a port of TCP is 1 to 65535
abbrev pub port_number : List ℕ → Option ℕ
port_number text = elim (number_of text) [ None ↦ None | Some n ↦ if nat_le 1 n && nat_le n 65535 then Some n else None ]

-- "If the port is empty or not given, port 80 is assumed." (section 3.2.2)
abbrev pub port_or_default : Option (List ℕ) → Option ℕ
port_or_default None = Some 80
port_or_default (Some text) = if is_empty text then Some 80 else port_number text

abbrev pub port_in : List ℕ → Option ℕ
port_in authority = port_or_default (split_once_back colon authority)

-- "An empty abs_path is equivalent to an abs_path of "/"." (section 3.2.3)
abbrev pub with_slash : List ℕ → List ℕ
with_slash path = if slice_index path 0 == slash then path else slash ∷ path

abbrev pub key_of : List ℕ → ℕ → List ℕ → Key
key_of host port path = record { host = lower host; port = port; path = with_slash path }

-- ours: a key has at most 8,192 bytes
abbrev pub fitting : Key → Result Key TargetFault
fitting key = if nat_le (length (text_of key)) 8192 then Ok key else Err TooLong

abbrev pub key_with : List ℕ → List ℕ → Option ℕ → Result Key TargetFault
key_with host path None = Err BadPort
key_with host path (Some port) = fitting (key_of host port path)

abbrev pub key_from_parts : List ℕ → List ℕ → List ℕ → Result Key TargetFault
key_from_parts scheme authority path =
    if not (bytes_eq scheme (codes "http")) then Err NotHttp
    else (if not (is_host authority) then Err BadHost
    else key_with (host_in authority) path (port_in authority))

abbrev pub key_from : Option Absolute → Result Key TargetFault
key_from None = Err NotAbsolute
key_from (Some a) = key_from_parts a.scheme a.authority a.path

-- the key of a target, or the first fault that applies
abbrev pub key_at : List ℕ → Result Key TargetFault
key_at target = key_from (absolute_at target)

-- the place points at the parts of the key that this text is
pub record IsPlaceIn (text : List ℕ) (place : Place) : Type 0 where
  pub spelled : text ≡ text_of (key_in text place)
  pub placed : place ≡ place_of (key_in text place)
  pub lowered : lower (key_in text place).host ≡ (key_in text place).host
  pub host_nonempty : place.host.0 < place.host.1
  pub host_short : place.host.1 ≤ place.host.0 + 255
  pub host_before_path : place.host.1 ≤ place.path
  pub path_within : place.path < length text
  pub slash_first : slice_index text place.path ≡ slash
  pub short : length text ≤ 8192
  pub port_nonzero : 0 < place.port
