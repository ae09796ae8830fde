-- No key of a target has more than 8,192 bytes.
use Rattle.std.proofs.Common.{◌≡◌, ℕ, ◌≤◌, nat_le, Bool, true, false, not, List, length, bytes_eq, codes, Option, Some, None, Result, Ok, Err, if◌then◌else◌, refl, subst, arith}
use Rattle.std.proofs.lemmas.Bool.Decides.{nat_tests}
use Rattle.pp_target.specs.Absolute.{Absolute, absolute_at}
use Rattle.pp_target.specs.Key.{Key, fitting, host_in, is_host, key_at, key_from, key_of, key_with, port_in, text_of}
use Rattle.pp_target.specs.declared.target.TargetFault.TheVariants.{BadHost, NotHttp, TooLong}
use Rattle.pp_target.specs.declared.target.TargetFault.{TargetFault}

abbrev IsShort : Key → Type 0
IsShort key = length (text_of key) ≤ 8192

abbrev if_fits : Bool → Key → Result Key TargetFault
if_fits b key = if b then Ok key else Err TooLong

abbrev if_http : Bool → Bool → Result Key TargetFault → Result Key TargetFault
if_http other nobody found = if other then Err NotHttp else (if nobody then Err BadHost else found)

up_to : (m n : ℕ) → nat_le m n ≡ true → m ≤ n
up_to m n is = grind (arith, nat_tests)

fitting_short : (k key : Key) → fitting k ≡ Ok key → IsShort key
fitting_short k key is = by (nat_le (length (text_of k)) 8192) refl is
  where
    by : (b : Bool) → nat_le (length (text_of k)) 8192 ≡ b → if_fits b k ≡ Ok key → IsShort key
    by true fits found = let same : k ≡ key = cc found in subst IsShort same (up_to (length (text_of k)) 8192 fits)
    by false not_so found = absurd (cc found)

with_short : (host path : List ℕ) (port : Option ℕ) (key : Key) → key_with host path port ≡ Ok key → IsShort key
with_short host path None key is = absurd (cc is)
with_short host path (Some port) key is = fitting_short (key_of host port path) key is

from_short : (a : Option Absolute) (key : Key) → key_from a ≡ Ok key → IsShort key
from_short None key is = absurd (cc is)
from_short (Some a) key is = by (not (bytes_eq a.scheme (codes "http"))) (not (is_host a.authority)) is
  where
    by : (other nobody : Bool) → if_http other nobody (key_with (host_in a.authority) a.path (port_in a.authority)) ≡ Ok key → IsShort key
    by true nobody found = absurd (cc found)
    by false true found = absurd (cc found)
    by false false found = with_short (host_in a.authority) a.path (port_in a.authority) key found

pub key_short : (target : List ℕ) (key : Key) → key_at target ≡ Ok key → length (text_of key) ≤ 8192
key_short target key is = from_short (absolute_at target) key is
