-- The parts of a key's text, and where they stand.
use Rattle.std.proofs.Common.{◌≡◌, ℕ, ◌+◌, ◌-◌, ◌<◌, ◌≤◌, ◌==◌, ◌&&◌, ◌||◌, not, cond, Bool, true, false, List, [], ◌∷◌, ◌++◌, length, take, drop, get_or, map, codes, refl, sym, ap, ◌∙◌, subst, arith, append_assoc, length-append, Option, Some, None, Result, Ok, Err, IfOk, is_some}
use Rattle.std.specs.Prelude.{slice_range, slice_index, nat_le, bytes_eq, IfErr}
use Rattle.std.specs.Char.{to_ascii_lowercase}
use Rattle.std.proofs.Math.Seq.{drop-append_seam, drop-append-add, take-append_seam}
use Rattle.std.proofs.lemmas.List.{length-map, length-drop, get_or-drop}
use Rattle.std.proofs.lemmas.Grind.{common_steps}
use Rattle.std.proofs.lemmas.Bool.Decides.{nat_tests}
use Rattle.pp_text.specs.Bytes.{is_empty, lower}
use Rattle.pp_target.specs.declared.target.Place.{Place}
use Rattle.pp_target.specs.Key.{Key, text_of, port_text, place_of, key_in, key_of, fitting, with_slash, host_in, has_mark, is_host, port_in, port_or_default, port_number, key_from, key_from_parts, key_with, IsPlaceIn}
use Rattle.pp_target.specs.Parsed.{IsSpelled, IsDue, absolute_of}
use Rattle.pp_target.specs.declared.target.TargetFault.{TargetFault}
use Rattle.pp_text.specs.Numbers.{number_of}
use Rattle.http_uri.specs.ByteClasses.{split_once_back}
use Rattle.http_uri.specs.Grammar.{or_slash}

front : (a b : List ℕ) (n : ℕ) → n ≡ length a → take n (a ++ b) ≡ a
front a b n e = rw e (take-append_seam a b)

rest : (a b c : List ℕ) (n : ℕ) → n ≡ length a + length b → drop n (a ++ (b ++ c)) ≡ c
rest a b c n e = rw e (drop-append-add a (b ++ c) (length b) ∙ drop-append_seam b c)

pub host_in-text_of : (k : Key) → (key_in (text_of k) (place_of k)).host ≡ k.host
host_in-text_of k = front k.host (port_text k.port ++ k.path) (7 + length k.host - 7) (omega arith)

pub path_in-text_of : (k : Key) → (key_in (text_of k) (place_of k)).path ≡ k.path
path_in-text_of k =
    let n = length k.host + length (port_text k.port) in
    let from : 7 + length k.host + length (port_text k.port) ≡ length (codes "http://") + n = omega arith in
    rw from (drop-append-add (codes "http://") (k.host ++ (port_text k.port ++ k.path)) n ∙ rest k.host (port_text k.port) k.path n refl)

same_key : (k l : Key) (port : ℕ) → k.host ≡ l.host → k.path ≡ l.path
    → ◌≡◌ {A = Key} (record { host = k.host; port = port; path = k.path }) (record { host = l.host; port = port; path = l.path })
same_key k l port host path =
    ap {B = Key} (λ (h : List ℕ). record { host = h; port = port; path = k.path }) host
    ∙ ap {B = Key} (λ (p : List ℕ). record { host = l.host; port = port; path = p }) path

pub key_in-text_of : (k : Key) → key_in (text_of k) (place_of k) ≡ k
key_in-text_of k = same_key (key_in (text_of k) (place_of k)) k k.port (host_in-text_of k) (path_in-text_of k)

-- the lower case of a byte is in lower case
lower_once : (b : ℕ) → to_ascii_lowercase (to_ascii_lowercase b) ≡ to_ascii_lowercase b
lower_once b = grind (arith, common_steps, nat_tests)

pub lower-lower : (text : List ℕ) → lower (lower text) ≡ lower text
lower-lower [] = refl
lower-lower (b ∷ text) = cc (lower_once b, lower-lower text)

pub length-lower : (text : List ℕ) → length (lower text) ≡ length text
length-lower text = length-map text to_ascii_lowercase

starts_with_slash : (path : List ℕ) → slice_index (with_slash path) 0 ≡ 47
starts_with_slash path = grind (arith, common_steps, nat_tests)

has_byte : (text : List ℕ) → slice_index text 0 ≡ 47 → 0 < length text
has_byte [] e = absurd (cc)
has_byte (b ∷ text) e = omega arith

first_at : (text path : List ℕ) (n : ℕ) → drop n text ≡ path → slice_index text n ≡ slice_index path 0
first_at text path n e =
    let moved : get_or (drop n text) 0 0 ≡ get_or text (n + 0) 0 = get_or-drop n text 0 0 in
    let here : get_or text (n + 0) 0 ≡ get_or text n 0 = ap (λ (i : ℕ). get_or text i 0) (omega arith) in
    sym here ∙ sym moved ∙ ap (λ (t : List ℕ). get_or t 0 0) e

longer : (text path : List ℕ) (n : ℕ) → drop n text ≡ path → 0 < length path → n < length text
longer text path n e some = grind (arith, common_steps, length-drop n text, ap length e)

pub placed : (host path : List ℕ) (port : ℕ) → 0 < length host → length host ≤ 255 → 0 < port
    → length (text_of (key_of host port path)) ≤ 8192 → IsPlaceIn (text_of (key_of host port path)) (place_of (key_of host port path))
placed host path port some short nonzero fits =
    let k = key_of host port path in
    let same : key_in (text_of k) (place_of k) ≡ k = key_in-text_of k in
    let sized : length k.host ≡ length host = length-lower host in
    let slash : slice_index k.path 0 ≡ 47 = starts_with_slash path in
    let low : (j : Key) → j ≡ k → lower j.host ≡ j.host = λ j e. subst (λ (x : Key). lower x.host ≡ x.host) (sym e) (lower-lower host) in
    record {
      spelled = ap text_of (sym same);
      placed = ap place_of (sym same);
      lowered = low (key_in (text_of k) (place_of k)) same;
      host_nonempty = omega arith;
      host_short = omega arith;
      host_before_path = omega arith;
      path_within = longer (text_of k) k.path (place_of k).path (path_in-text_of k) (has_byte k.path slash);
      slash_first = first_at (text_of k) k.path (place_of k).path (path_in-text_of k) ∙ slash;
      short = fits;
      port_nonzero = nonzero;
    }

nonempty : (text : List ℕ) → is_empty text ≡ false → 0 < length text
nonempty [] is = absurd (cc)
nonempty (b ∷ text) is = omega arith

host_sized : (authority : List ℕ) → is_host authority ≡ true → (0 < length (host_in authority)) × (length (host_in authority) ≤ 255)
host_sized authority is = by (host_in authority) (has_mark authority) is
  where
    by : (host : List ℕ) (mark : Bool) → (not (is_empty host) && nat_le (length host) 255) && not mark ≡ true → (0 < length host) × (length host ≤ 255)
    by [] mark is = absurd (cc)
    by (b ∷ host) mark is = (omega arith, grind (arith, nat_tests))

port_nonzero : (authority : List ℕ) (port : ℕ) → port_in authority ≡ Some port → 0 < port
port_nonzero authority port is = by (split_once_back 58 authority) is
  where
    in_range : (found : Option ℕ) → ◌≡◌ {A = Option ℕ} (elim found [ None ↦ None | Some n ↦ cond (nat_le 1 n && nat_le n 65535) (Some n) None ]) (Some port) → 0 < port
    in_range None is = absurd (cc)
    in_range (Some n) is = grind (arith, nat_tests)

    by : (text : Option (List ℕ)) → port_or_default text ≡ Some port → 0 < port
    by None is = grind arith
    by (Some text) is = either (is_empty text) is
      where
        either : (b : Bool) → cond b (Some 80) (port_number text) ≡ Some port → 0 < port
        either true is = grind arith
        either false is = in_range (number_of text) is

-- what is due once the host and the port were read
pub due_is : (scheme authority path : List ℕ) (port : ℕ)
    → bytes_eq scheme (codes "http") ≡ true → is_host authority ≡ true → port_in authority ≡ Some port
    → key_from_parts scheme authority path ≡ fitting (key_of (host_in authority) port path)
due_is scheme authority path port http host is = rw (http, host, is) refl

fits : (k : Key) → length (text_of k) ≤ 8192 → fitting k ≡ Ok k
fits k short =
    let is : nat_le (length (text_of k)) 8192 ≡ true = grind (arith, nat_tests) in
    rw is refl

pub due : (scheme authority path text : List ℕ) (port : ℕ)
    → bytes_eq scheme (codes "http") ≡ true → is_host authority ≡ true → port_in authority ≡ Some port
    → (r : Result Place TargetFault)
    → IfOk r (IsSpelled (key_of (host_in authority) port path) text) → IfErr r (λ fault. fitting (key_of (host_in authority) port path) ≡ Err fault)
    → IsDue (key_from_parts scheme authority path) r text
due scheme authority path text port http host is (Ok place) ok err =
    let k = key_of (host_in authority) port path in
    let short : length (text_of k) ≤ 8192 = subst (λ (t : List ℕ). length t ≤ 8192) ok.0 ok.2 in
    let sized = host_sized authority host in
    rw (ok.0, ok.1) (
      due_is scheme authority path port http host is ∙ fits k short ∙ ap Ok (sym (key_in-text_of k)),
      placed (host_in authority) path port sized.0 sized.1 (port_nonzero authority port is) short,
    )
due scheme authority path text port http host is (Err fault) ok err = due_is scheme authority path port http host is ∙ err

long : (n b : ℕ) (path : List ℕ) → (n == 0) ≡ false → cond (n == 0) (codes "/") (b ∷ path) ≡ b ∷ path
long n b path is = rw is refl

slash_or_slash : (path : List ℕ) → with_slash (or_slash path) ≡ with_slash path
slash_or_slash [] = refl
slash_or_slash (b ∷ path) =
    let some : (length (b ∷ path) == 0) ≡ false = grind (arith, nat_tests) in
    ap with_slash (long (length (b ∷ path)) b path some)

key_with_slash : (host path : List ℕ) (port : Option ℕ) → key_with host (or_slash path) port ≡ key_with host path port
key_with_slash host path None = refl
key_with_slash host path (Some port) =
    ap (λ (p : List ℕ). fitting (record { host = lower host; port = port; path = p })) (slash_or_slash path)

key_slash : (scheme authority path : List ℕ) → key_from_parts scheme authority (or_slash path) ≡ key_from_parts scheme authority path
key_slash scheme authority path = rw (key_with_slash (host_in authority) path (port_in authority)) refl

-- what the parts of a URI are due
pub parts_due : (S A : Option (List ℕ)) (s a p d : List ℕ) → S ≡ Some s → A ≡ Some a → cond (is_some S || not (is_some A)) (Some d) None ≡ Some p
    → key_from (absolute_of S A d) ≡ key_from_parts s a (or_slash p)
parts_due None A s a p d is_s is_a is_p = absurd (cc)
parts_due (Some scheme) None s a p d is_s is_a is_p = absurd (cc)
parts_due (Some scheme) (Some authority) s a p d is_s is_a is_p =
    let es : scheme ≡ s = cc in
    let ea : authority ≡ a = cc in
    let ed : d ≡ p = cc in
    rw (es, ea, ed) (sym (key_slash s a p))

-- the text and the place of a key whose parts were written one behind the other
pub spelled : (host path text a b : List ℕ) (port from to at : ℕ)
    → a ≡ codes "http://" ++ lower host → b ≡ a ++ port_text port → text ≡ b ++ with_slash path
    → from ≡ 7 → to ≡ length a → at ≡ length b → length b + length (with_slash path) ≤ 8192
    → IsSpelled (key_of host port path) text (record { host = (from, to); port = port; path = at })
spelled host path text a b port from to at is_a is_b is_text is_from is_to is_at short =
    let h = lower host in
    let p = port_text port in
    let to_is : to ≡ 7 + length h = omega (arith, is_to, ap length is_a) in
    let at_is : at ≡ 7 + length h + length p = omega (arith, is_at, ap length is_b, length-append a p, ap length is_a) in
    let whole : text ≡ ((codes "http://" ++ h) ++ p) ++ with_slash path = is_text ∙ ap (λ (t : List ℕ). t ++ with_slash path) (is_b ∙ ap (λ (t : List ℕ). t ++ p) is_a) in
    (whole ∙ simp append_assoc, rw (is_from, to_is, at_is) refl, omega (arith, ap length is_text, length-append b (with_slash path)))
