-- A text names the same key of a site in the program and in the law.
use Rattle.std.proofs.Common.{◌≡◌, ◌≤◌, ◌<◌, ◌+◌, ◌^◌, refl, sym, subst, ap, ap₂, ◌∙◌, ℕ, suc, Bool, true, false, not, ◌==◌, ◌&&◌, cond, length, take, List, [], ◌∷◌, ◌++◌, append_assoc, codes, nat_le, Some, None, Option, Result, Ok, Err, arith, length-append}
use Rattle.std.proofs.lemmas.Bool.Decides.{nat_tests}
use Rattle.std.proofs.lemmas.Fmt.{decimal_injective}
use Rattle.std.proofs.lemmas.Slice.Eq.{bytes_eq-Decides}
use Rattle.std.specs.Char.{to_ascii_lowercase}
use Rattle.std.specs.Fmt.{decimal}
use Rattle.std.specs.List.{list_all, prefix_len, starts_with}
use Rattle.std.specs.Prelude.{bytes_eq, nat_eq, slice_index, ⊤}
use Rattle.http_uri.specs.ByteClasses.{split_once_back, split_once_front}
use Rattle.pp_cache.specs.Named.{key_named, path_named, site_of, some_if, url_named}
use Rattle.pp_law.specs.Lists.{Bytes}
use Rattle.pp_law.specs.ThroughHeads.{is_same_host, path_named as law_path_named}
use Rattle.pp_target.specs.Absolute.{Absolute, absolute_at}
use Rattle.pp_target.specs.Key.{Key, fitting, host_in, is_host, key_at, key_from, key_from_parts, key_of, key_with, port_in, port_number, port_or_default, port_text, text_of, with_slash}
use Rattle.pp_target.specs.declared.target.TargetFault.{TargetFault}
use Rattle.pp_target.specs.declared.target.TargetFault.TheVariants.{NotHttp, BadHost, TooLong}
use Rattle.pp_text.specs.Bytes.{is_empty, lower}
use Rattle.pp_text.specs.Numbers.{number_of}
use Rattle.pp_answers_law.specs.Naming.{NamesAreTheLaws, named_at}

-- ---- tests

same_tests : (a b : Bool) → (a ≡ true → b ≡ true) → (b ≡ true → a ≡ true) → a ≡ b
same_tests true b to from = sym (to refl)
same_tests false true to from = from refl
same_tests false false to from = refl

both_true : (a b : Bool) → (a && b) ≡ true → (a ≡ true) × (b ≡ true)
both_true true b is = (refl, is)
both_true false b is = absurd (let no : false ≡ true = is in cc no)

-- ---- the key of a target has a host without a colon, a port of TCP, and a path

pub record IsPlain (key : Key) : Type 0 where
  pub host : list_all (λ b. not (b == 58)) key.host ≡ true
  pub port : key.port < 2 ^ 64
  pub path : 0 < length key.path

abbrev Holds : Result Key TargetFault → Type 0
Holds (Ok key) = IsPlain key
Holds (Err fault) = ⊤

suc_is : (n : ℕ) → 1 + n ≡ suc n
suc_is n = omega arith

front_plain : (text : List ℕ) → list_all (λ b. not (b == 58)) (split_once_front 58 text) ≡ true
front_plain [] = refl
front_plain (b ∷ text) = by (not (b == 58)) refl (front_plain text)
  where
    by : (t : Bool) → not (b == 58) ≡ t → list_all (λ c. not (c == 58)) (split_once_front 58 text) ≡ true → list_all (λ c. not (c == 58)) (take (cond t (1 + prefix_len (λ c. not (c == 58)) text) 0) (b ∷ text)) ≡ true
    by true is rest = ap (λ (m : ℕ). list_all (λ c. not (c == 58)) (take m (b ∷ text))) (suc_is (prefix_len (λ c. not (c == 58)) text)) ∙ ap₂ (λ (x y : Bool). x && y) is rest
    by false is rest = refl

lower_plain : (b : ℕ) → not (b == 58) ≡ true → not (to_ascii_lowercase b == 58) ≡ true
lower_plain b is = grind (arith, nat_tests)

lowered_plain : (text : List ℕ) → list_all (λ b. not (b == 58)) text ≡ true → list_all (λ b. not (b == 58)) (lower text) ≡ true
lowered_plain [] is = refl
lowered_plain (b ∷ text) is =
    let these = both_true (not (b == 58)) (list_all (λ c. not (c == 58)) text) is in
    ap₂ (λ (x y : Bool). x && y) (lower_plain b these.0) (lowered_plain text these.1)

port_small : (authority : List ℕ) (port : ℕ) → port_in authority ≡ Some port → port < 2 ^ 64
port_small authority port is = by (split_once_back 58 authority) is
  where
    in_range : (found : Option ℕ) → ◌≡◌ {A = Option ℕ} (elim found [ None ↦ None | Some n ↦ cond (nat_le 1 n && nat_le n 65535) (Some n) None ]) (Some port) → port < 2 ^ 64
    in_range None none = absurd (cc)
    in_range (Some n) some = grind (arith, nat_tests)

    by : (text : Option (List ℕ)) → port_or_default text ≡ Some port → port < 2 ^ 64
    by None some = grind arith
    by (Some text) some = either (is_empty text) some
      where
        either : (b : Bool) → cond b (Some 80) (port_number text) ≡ Some port → port < 2 ^ 64
        either true it = grind arith
        either false it = in_range (number_of text) it

slashed : (path : List ℕ) → 0 < length (with_slash path)
slashed [] = omega arith
slashed (b ∷ path) = by (b == 47)
  where
    by : (t : Bool) → 0 < length (cond t (b ∷ path) (47 ∷ b ∷ path))
    by true = omega arith
    by false = omega arith

fitting_holds : (key : Key) → IsPlain key → Holds (fitting key)
fitting_holds key plain = by (nat_le (length (text_of key)) 8192)
  where
    by : (b : Bool) → Holds (cond b (Ok key) (Err TooLong))
    by true = plain
    by false = tt

parts_hold : (scheme authority path : List ℕ) → Holds (key_from_parts scheme authority path)
parts_hold scheme authority path = by (bytes_eq scheme (codes "http")) (is_host authority)
  where
    with_port : (o : Option ℕ) → port_in authority ≡ o → Holds (key_with (host_in authority) path o)
    with_port None is = tt
    with_port (Some port) is = fitting_holds (key_of (host_in authority) port path) (record { host = lowered_plain (host_in authority) (front_plain authority); port = port_small authority port is; path = slashed path })

    by : (a b : Bool) → Holds (cond (not a) (Err NotHttp) (cond (not b) (Err BadHost) (key_with (host_in authority) path (port_in authority))))
    by true true = with_port (port_in authority) refl
    by true false = tt
    by false b = tt

from_holds : (o : Option Absolute) → Holds (key_from o)
from_holds None = tt
from_holds (Some a) = parts_hold a.scheme a.authority a.path

pub plain : (target : Bytes) (key : Key) → key_at target ≡ Ok key → IsPlain key
plain target key is = subst (λ (r : Result Key TargetFault). Holds r) is (from_holds (absolute_at target))

-- ---- two sites

abbrev cut : List ℕ → List ℕ
cut [] = []
cut (b ∷ text) = cond (not (b == 58)) (b ∷ cut text) []

port_cut : (port : ℕ) → cut (port_text port) ≡ []
port_cut port = by (port == 80)
  where
    by : (b : Bool) → cut (cond b [] (58 ∷ decimal port)) ≡ []
    by true = refl
    by false = refl

host_cut : (host : List ℕ) (port : ℕ) → list_all (λ b. not (b == 58)) host ≡ true → cut (host ++ port_text port) ≡ host
host_cut [] port is = port_cut port
host_cut (b ∷ host) port is =
    let these = both_true (not (b == 58)) (list_all (λ c. not (c == 58)) host) is in
    ap (λ (t : Bool). cond t (b ∷ cut (host ++ port_text port)) []) these.0 ∙ ap (λ (t : List ℕ). b ∷ t) (host_cut host port these.1)

abbrev tail_of : List ℕ → List ℕ
tail_of [] = []
tail_of (b ∷ text) = text

behind : (xs ys zs : List ℕ) → xs ++ ys ≡ xs ++ zs → ys ≡ zs
behind [] ys zs same = same
behind (x ∷ xs) ys zs same = behind xs ys zs (ap tail_of same)

some_none : (x : ℕ) (xs : List ℕ) → ([] ≡ x ∷ xs) → ⊥
some_none x xs same = absurd cc

ports_same : (p q : ℕ) → p < 2 ^ 64 → q < 2 ^ 64 → port_text p ≡ port_text q → p ≡ q
ports_same p q small less same = by (p == 80) (q == 80) refl refl same
  where
    both : (p == 80) ≡ true → (q == 80) ≡ true → p ≡ q
    both is so = grind (arith, nat_tests)

    by : (b c : Bool) → (p == 80) ≡ b → (q == 80) ≡ c → cond b [] (58 ∷ decimal p) ≡ cond c [] (58 ∷ decimal q) → p ≡ q
    by true true is so e = both is so
    by true false is so e = absurd (some_none 58 (decimal q) e)
    by false true is so e = absurd (some_none 58 (decimal p) (sym e))
    by false false is so e = decimal_injective p q small less (ap tail_of e)

num_same : (p q : ℕ) → (p == q) ≡ true → p ≡ q
num_same p q is = grind (arith, nat_tests)

same_num : (p q : ℕ) → p ≡ q → (p == q) ≡ true
same_num p q is = grind (arith, nat_tests)

sites_same : (a b : Key) → IsPlain a → IsPlain b → bytes_eq (site_of a) (site_of b) ≡ is_same_host a b
sites_same a b first second = same_tests (bytes_eq (site_of a) (site_of b)) (bytes_eq a.host b.host && (a.port == b.port)) to from
  where
    to : bytes_eq (site_of a) (site_of b) ≡ true → (bytes_eq a.host b.host && (a.port == b.port)) ≡ true
    to is =
        let sites : site_of a ≡ site_of b = (bytes_eq-Decides (site_of a) (site_of b)).0 is in
        let rests : a.host ++ port_text a.port ≡ b.host ++ port_text b.port = behind (codes "http://") (a.host ++ port_text a.port) (b.host ++ port_text b.port) sites in
        let hosts : a.host ≡ b.host = sym (host_cut a.host a.port first.host) ∙ ap cut rests ∙ host_cut b.host b.port second.host in
        let ports : port_text a.port ≡ port_text b.port = behind a.host (port_text a.port) (port_text b.port) (rests ∙ ap (λ (h : List ℕ). h ++ port_text b.port) (sym hosts)) in
        ap₂ (λ (x y : Bool). x && y) ((bytes_eq-Decides a.host b.host).1 hosts) (same_num a.port b.port (ports_same a.port b.port first.port second.port ports))

    from : (bytes_eq a.host b.host && (a.port == b.port)) ≡ true → bytes_eq (site_of a) (site_of b) ≡ true
    from is =
        let these = both_true (bytes_eq a.host b.host) (a.port == b.port) is in
        (bytes_eq-Decides (site_of a) (site_of b)).1
        (ap₂ (λ (h : List ℕ) (p : ℕ). codes "http://" ++ (h ++ port_text p)) ((bytes_eq-Decides a.host b.host).0 these.0) (num_same a.port b.port these.1))

-- ---- a URL, or a path of the same host

url_same : (key named : Key) → IsPlain key → IsPlain named → url_named (site_of key) named ≡ elim (is_same_host named key) as (λ t. Option Bytes) [ true ↦ Some (text_of named) | false ↦ None ]
url_same key named own other = ap (λ (b : Bool). some_if b (text_of named)) (sites_same named key other own) ∙ by (is_same_host named key)
  where
    by : (b : Bool) → some_if b (text_of named) ≡ elim b as (λ t. Option Bytes) [ true ↦ Some (text_of named) | false ↦ None ]
    by true = refl
    by false = refl

begins : (text : List ℕ) → starts_with nat_eq text (codes "/") ≡ (slice_index text 0 == 47)
begins [] = refl
begins (b ∷ text) = first (b == 47) (47 == b) refl refl
  where
    other_way : (m n : ℕ) → (m == n) ≡ (n == m)
    other_way m n = grind (arith, nat_tests)

    first : (t u : Bool) → (b == 47) ≡ t → (47 == b) ≡ u → ((47 == b) && true) ≡ (b == 47)
    first true u is so = ap (λ (x : Bool). x && true) (other_way 47 b ∙ is) ∙ sym is
    first false u is so = ap (λ (x : Bool). x && true) (other_way 47 b ∙ is) ∙ sym is

same_host : (key : Key) (text : Bytes) → is_same_host (record key { path = text }) key ≡ true
same_host key text = ap₂ (λ (x y : Bool). x && y) ((bytes_eq-Decides key.host key.host).1 refl) (same_num key.port key.port refl)

joined_text : (key : Key) (text : Bytes) → site_of key ++ text ≡ text_of (record key { path = text })
joined_text key text = append_assoc (codes "http://") (key.host ++ port_text key.port) text ∙ ap (λ (t : List ℕ). codes "http://" ++ t) (append_assoc key.host (port_text key.port) text)

abbrev chosen : Key → Option Key → Option Bytes
chosen key o = elim o as (λ t. Option Bytes) [ None ↦ None | Some named ↦ elim (is_same_host named key) as (λ t. Option Bytes) [ true ↦ Some (text_of named) | false ↦ None ] ]

path_same : (key : Key) (text : Bytes) → path_named (site_of key) text ≡ chosen key (law_path_named key text)
path_same key text =
    ap (λ (n : ℕ). some_if ((slice_index text 0 == 47) && nat_le n 8192) (site_of key ++ text)) (sym (length-append (site_of key) text) ∙ ap (λ (t : Bytes). length t) (joined_text key text))
    ∙ ap (λ (b : Bool). some_if (b && nat_le (length (text_of (record key { path = text }))) 8192) (site_of key ++ text)) (sym (begins text))
    ∙ by (starts_with nat_eq text (codes "/") && nat_le (length (text_of (record key { path = text }))) 8192)
  where
    by : (b : Bool) → some_if b (site_of key ++ text) ≡ chosen key (elim b as (λ t. Option Key) [ true ↦ Some (record key { path = text }) | false ↦ None ])
    by true =
        ap (λ (t : List ℕ). Some t) (joined_text key text)
        ∙ sym (ap (λ (c : Bool). elim c as (λ t. Option Bytes) [ true ↦ Some (text_of (record key { path = text })) | false ↦ None ]) (same_host key text))
    by false = refl

pub names_same : NamesAreTheLaws
names_same key target text is = by (key_at text) refl
  where
    by : (r : Result Key TargetFault) → key_at text ≡ r → key_named (site_of key) text ≡ named_at key text
    by (Ok named) so =
        ap (λ (s : Result Key TargetFault). elim s as (λ t. Option Bytes) [ Ok k ↦ url_named (site_of key) k | Err fault ↦ path_named (site_of key) text ]) so
        ∙ url_same key named (plain target key is) (plain text named so)
        ∙ sym (ap (λ (s : Result Key TargetFault). chosen key (elim s as (λ t. Option Key) [ Ok k ↦ Some k | Err fault ↦ law_path_named key text ])) so)
    by (Err fault) so =
        ap (λ (s : Result Key TargetFault). elim s as (λ t. Option Bytes) [ Ok k ↦ url_named (site_of key) k | Err f ↦ path_named (site_of key) text ]) so
        ∙ path_same key text
        ∙ sym (ap (λ (s : Result Key TargetFault). chosen key (elim s as (λ t. Option Key) [ Ok k ↦ Some k | Err f ↦ law_path_named key text ])) so)
