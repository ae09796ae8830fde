-- The tests of specs/Absolute.antt and the grammar of http_uri give the same parts to the same texts.
use Rattle.std.proofs.Common.{◌≡◌, ℕ, ◌-◌, ◌<◌, ◌≤◌, ◌⊎◌, ◌↔◌, Bool, true, false, not, ◌||◌, ◌==◌, cond, IsTrue, List, [], ◌∷◌, ◌++◌, length, take, drop, refl, sym, ap, ◌∙◌, subst, arith, inl, inr, Option, Some, None, codes, IfSome, IsUtf8, append_assoc, take-append-drop, drop-drop}
use Rattle.std.specs.Prelude.{nat_le, slice_index}
use Rattle.std.specs.Bool.{Decides}
use Rattle.std.specs.List.{list_all}
use Rattle.std.specs.Str.{is_utf8}
use Rattle.std.proofs.lemmas.Bool.Decides.{Decides-eqb, Decides-ltb, Decides-like, Decides-not, Decides-and, Decides-or, Decides-by_and, Decides-below_and, nat_tests}
use Rattle.std.proofs.lemmas.Slice.Eq.{bytes_eq-Decides}
use Rattle.std.proofs.lemmas.Str.{IsUtf8-from_is_utf8, is_utf8-from_IsUtf8}
use Rattle.http_uri.specs.ByteClasses.{is_scheme_byte, is_authority_byte, is_path_byte, is_query_byte, is_delimiter, count_of, split_once_front, split_once_back}
use Rattle.http_uri.specs.Grammar.{AllPass, IsScheme, normal_scheme, last_piece, MayFollow, IsAuthority, IsPathAndQuery, without_fragment, IsPathInput, IsTail, IsAbsoluteForm, IsForm, IsUriText, scheme_len, authority_len}
use Rattle.http_uri.specs.Uri.{Spells, SpellsNone, uri_scheme, uri_authority, uri_data}
use Rattle.http_uri.specs.declared.uri.Uri.{Uri}
use Rattle.http_uri.proofs.UriLemmas.{cut_name, cut_rest, cut_authority, cut_tail, cut_scheme, cut_long, cut_first, IsAuthority_no_scheme}
use Rattle.pp_target.specs.Absolute.{may_follow, all_follow, is_authority, is_query, is_path_and_query, is_path_input, is_tail, kept_of, scheme_in, after_scheme, authority_in, tail_in, is_absolute, Absolute, absolute_at, HasUriGrammar}
use Rattle.pp_target.specs.Parsed.{absolute_of, parts_of}

decides_le : (a b : ℕ) → Decides (nat_le a b) (a ≤ b)
decides_le a b = (grind (arith, nat_tests), grind (arith, nat_tests))

decides_if : {P Q : Type 0} (x y : Bool) → Decides x P → Decides y Q → Decides (not x || y) (P → Q)
decides_if true y p q = (λ is h. q.0 is, λ f. q.1 (f (p.0 refl)))
decides_if false y p q = (λ is h. let no : false ≡ true = p.1 h in absurd (cc), λ f. refl)

decides_true : (b : Bool) → Decides b (IsTrue b)
decides_true b = (λ is. is, λ is. is)

decides_all : (test : ℕ → Bool) (text : List ℕ) → Decides (list_all test text) (AllPass test text)
decides_all test text = Decides-by_and test (λ b. IsTrue (test b)) (list_all test) (λ b. decides_true (test b)) refl (λ x xs. refl) text

decides_utf8 : (text : List ℕ) → Decides (is_utf8 text) (IsUtf8 text)
decides_utf8 text = (IsUtf8-from_is_utf8 text, is_utf8-from_IsUtf8 text)

-- authorities

follow_tells : (front : List ℕ) (b : ℕ) → Decides (may_follow front b) (MayFollow front b)
follow_tells front b = Decides-like (may_follow front b)
    (λ p. record { byte = p.0.0.0; colons = p.0.0.1; opening = p.0.1; closing = p.1 })
    (λ m. (((m.byte, m.colons), m.opening), m.closing))
    (Decides-and _ _ (Decides-and _ _ (Decides-and _ _ (decides_true (is_authority_byte b))
    (decides_if (b == 58) _ (Decides-eqb b 58) (Decides-ltb (count_of 58 (last_piece front)) 8)))
    (decides_if (b == 91) _ (Decides-eqb b 91) (Decides-and _ _ (Decides-eqb (count_of 91 front) 0) (Decides-eqb (count_of 37 (last_piece front)) 0))))
    (decides_if (b == 93) _ (Decides-eqb b 93) (Decides-and _ _ (Decides-ltb 0 (count_of 91 front)) (Decides-eqb (count_of 93 front) 0))))

all_tell : (text : List ℕ) (n : ℕ) → Decides (all_follow text n) ((i : ℕ) → i < n → MayFollow (take i text) (slice_index text i))
all_tell text n = Decides-below_and (λ i. may_follow (take i text) (slice_index text i)) (λ i. MayFollow (take i text) (slice_index text i)) (all_follow text)
    (λ i. follow_tells (take i text) (slice_index text i)) refl (λ n. refl) n

authority_tells : (text : List ℕ) → Decides (is_authority text) (IsAuthority text)
authority_tells text = Decides-like (is_authority text)
    (λ p. record { nonempty = p.0; bytes = p.1.0; closed = p.1.1.0; one_colon = p.1.1.1.0; no_percent = p.1.1.1.1.0; has_host = p.1.1.1.1.1 })
    (λ a. (a.nonempty, (a.bytes, (a.closed, (a.one_colon, (a.no_percent, a.has_host))))))
    (Decides-and _ _ (Decides-ltb 0 (length text)) (Decides-and _ _ (all_tell text (length text)) (Decides-and _ _ (Decides-eqb (count_of 91 text) (count_of 93 text))
    (Decides-and _ _ (decides_le (count_of 58 (last_piece text)) 1) (Decides-and _ _ (Decides-eqb (count_of 37 (last_piece text)) 0) (Decides-not _ (Decides-eqb (slice_index text (length text - 1)) 64)))))))

-- paths

query_tells : (q : Option (List ℕ)) → Decides (is_query q) (IfSome q (AllPass is_query_byte))
query_tells None = (λ _. tt, λ _. refl)
query_tells (Some text) = decides_all is_query_byte text

path_tells : (text : List ℕ) → Decides (is_path_and_query text) (IsPathAndQuery text)
path_tells text = Decides-like (is_path_and_query text)
    (λ p. record { start = p.0; path = p.1.0; query = p.1.1.0; utf8 = p.1.1.1.0; short = p.1.1.1.1 })
    (λ a. (a.start, (a.path, (a.query, (a.utf8, a.short)))))
    (Decides-and _ _ (Decides-or _ _ (bytes_eq-Decides text []) (Decides-or _ _ (bytes_eq-Decides text (codes "*")) (Decides-or _ _ (Decides-eqb (slice_index text 0) 47) (Decides-eqb (slice_index text 0) 63))))
    (Decides-and _ _ (decides_all is_path_byte (split_once_front 63 text)) (Decides-and _ _ (query_tells (split_once_back 63 text)) (Decides-and _ _ (decides_utf8 text) (decides_le (length text) 65534)))))

input_tells : (text : List ℕ) → Decides (is_path_input text) (IsPathInput text)
input_tells text = Decides-like (is_path_input text)
    (λ p. record { start = p.0; short = p.1.0; kept = p.1.1 }) (λ a. (a.start, (a.short, a.kept)))
    (Decides-and _ _ (Decides-or _ _ (bytes_eq-Decides text (codes "*")) (decides_true (is_delimiter (slice_index text 0))))
    (Decides-and _ _ (decides_le (length text) 65534) (path_tells (without_fragment text))))

abbrev Tail : List ℕ → Type 0
Tail text = (text ≡ []) ⊎ (IsTrue (is_delimiter (slice_index text 0)) × IsPathInput text)

tail_tells : (text : List ℕ) → Decides (is_tail text) (Tail text)
tail_tells text = Decides-or _ _ (bytes_eq-Decides text []) (Decides-and _ _ (decides_true (is_delimiter (slice_index text 0))) (input_tells text))

tail_from : (text : List ℕ) → Tail text → IsTail text (kept_of text)
tail_from [] t = inl (refl, refl)
tail_from (b ∷ text) (inl e) = absurd (cc)
tail_from (b ∷ text) (inr t) = inr (t.0, t.1, refl)

tail_to : (text kept : List ℕ) → IsTail text kept → Tail text × (kept ≡ kept_of text)
tail_to text kept (inl e) = (inl e.0, e.1 ∙ sym (ap kept_of e.0))
tail_to [] kept (inr t) = let no = t.0 in absurd (cc)
tail_to (b ∷ text) kept (inr t) = (inr (t.0, t.1), t.2)

-- the absolute form

abbrev IsAbsolute : List ℕ → Type 0
IsAbsolute text = (length text ≤ 65534) × ((take 3 (drop (scheme_len text) text) ≡ codes "://") × (IsScheme (scheme_in text) × (IsAuthority (authority_in text) × Tail (tail_in text))))

absolute_tells : (text : List ℕ) → Decides (is_absolute text) (IsAbsolute text)
absolute_tells text = Decides-and _ _ (decides_le (length text) 65534) (Decides-and _ _ (bytes_eq-Decides _ (codes "://"))
    (Decides-and _ _ (Decides-and _ _ (decides_all is_scheme_byte (scheme_in text)) (decides_le (length (scheme_in text)) 64))
    (Decides-and _ _ (authority_tells (authority_in text)) (tail_tells (tail_in text)))))

regroup : (n a t : List ℕ) → n ++ 58 ∷ 47 ∷ 47 ∷ (a ++ t) ≡ n ++ (58 ∷ 47 ∷ 47 ∷ []) ++ a ++ t
regroup n a t = simp append_assoc

split : (text : List ℕ) → take 3 (drop (scheme_len text) text) ≡ codes "://" → text ≡ scheme_in text ++ codes "://" ++ authority_in text ++ tail_in text
split text colon =
    let n = scheme_len text in
    let rest : drop n text ≡ codes "://" ++ after_scheme text = sym (take-append-drop 3 (drop n text)) ∙ ap (λ (t : List ℕ). t ++ drop 3 (drop n text)) colon ∙ ap (λ (t : List ℕ). codes "://" ++ t) (drop-drop 3 n text) in
    let parts : after_scheme text ≡ authority_in text ++ tail_in text = sym (take-append-drop (authority_len (after_scheme text)) (after_scheme text)) in
    sym (take-append-drop n text) ∙ ap (λ (t : List ℕ). scheme_in text ++ t) (rest ∙ ap (λ (t : List ℕ). codes "://" ++ t) parts) ∙ regroup (scheme_in text) (authority_in text) (tail_in text)

sound : (text : List ℕ) → is_absolute text ≡ true → IsUriText text (Some (normal_scheme (scheme_in text))) (Some (authority_in text)) (kept_of (tail_in text))
sound text is =
    let p = (absolute_tells text).0 is in
    (p.0, record { name = scheme_in text; tail = tail_in text; spelled = split text p.1.0; is_scheme = p.1.1.0; normal = refl; is_authority = p.1.1.1.0; is_tail = tail_from (tail_in text) p.1.1.1.1 })

complete : (text s a k : List ℕ) → IsUriText text (Some s) (Some a) k
    → (is_absolute text ≡ true) × (s ≡ normal_scheme (scheme_in text)) × (a ≡ authority_in text) × (k ≡ kept_of (tail_in text))
complete text s a k u =
    let h = u.1 in
    let name : scheme_in text ≡ h.name = cut_name text s a k h in
    let rest : after_scheme text ≡ a ++ h.tail = cut_rest text s a k h in
    let authority : authority_in text ≡ a = ap (λ (t : List ℕ). take (authority_len t) t) rest ∙ cut_authority text s a k h in
    let tail : tail_in text ≡ h.tail = ap (λ (t : List ℕ). drop (authority_len t) t) rest ∙ cut_tail text s a k h in
    let t = tail_to (tail_in text) k (subst (λ (x : List ℕ). IsTail x k) (sym tail) h.is_tail) in (
      (absolute_tells text).1 (u.0, ((cut_scheme text s a k h).1, (subst IsScheme (sym name) h.is_scheme, (subst IsAuthority (sym authority) h.is_authority, t.0)))),
      h.normal ∙ ap normal_scheme (sym name),
      sym authority,
      t.1,
    )

-- the other two forms are not absolute
not_both : (text : List ℕ) (authority : Option (List ℕ)) (k s a k₂ : List ℕ) → IsForm text None authority k → IsAbsoluteForm text s a k₂ → ⊥
not_both text None k s a k₂ h g = elim h.0.0 [ inl star ↦ omega (arith, ap length star, cut_long text s a k₂ g) | inr slash ↦ cut_first text s a k₂ g slash ]
not_both text (Some b) k s a k₂ h g = IsAuthority_no_scheme text h.0 (cut_scheme text s a k₂ g)

abbrev parts_in : List ℕ → Absolute
parts_in text = record { scheme = normal_scheme (scheme_in text); authority = authority_in text; path = kept_of (tail_in text) }

-- what a text in one of the forms gives
form_is : (text : List ℕ) (scheme authority : Option (List ℕ)) (k : List ℕ) → IsUriText text scheme authority k → absolute_of scheme authority k ≡ absolute_at text
unfolding absolute_at
form_is text None authority k u = by (is_absolute text) refl
  where
    by : (v : Bool) → is_absolute text ≡ v → ◌≡◌ {A = Option Absolute} None (cond v (Some (parts_in text)) None)
    by true is = absurd (not_both text authority k _ _ _ u.1 (sound text is).1)
    by false is = refl
form_is text (Some s) None k u = absurd u.1
form_is text (Some s) (Some a) k u =
    let c = complete text s a k u in
    rw (c.0, absolute_at) (cc (c.1, c.2, c.3))

abbrev scheme_of : Option Absolute → List ℕ
scheme_of None = []
scheme_of (Some a) = a.scheme

abbrev authority_of : Option Absolute → List ℕ
authority_of None = []
authority_of (Some a) = a.authority

abbrev path_of : Option Absolute → List ℕ
path_of None = []
path_of (Some a) = a.path

-- what is read has the absolute form
read_is : (text s a k : List ℕ) → absolute_at text ≡ Some (record { scheme = s; authority = a; path = k }) → IsUriText text (Some s) (Some a) k
unfolding absolute_at
read_is text s a k e = by (is_absolute text) refl e
  where
    by : (v : Bool) → is_absolute text ≡ v → ◌≡◌ {A = Option Absolute} (cond v (Some (parts_in text)) None) (Some (record { scheme = s; authority = a; path = k })) → IsUriText text (Some s) (Some a) k
    by true is e =
        let scheme : normal_scheme (scheme_in text) ≡ s = ap scheme_of e in
        let authority : authority_in text ≡ a = ap authority_of e in
        let path : kept_of (tail_in text) ≡ k = ap path_of e in
        rw (← scheme, ← authority, ← path) (sound text is)
    by false is e = absurd (cc)

-- a text that is no URI is not absolute
pub unparsed_is : (text : List ℕ) → SpellsNone text → absolute_at text ≡ None
unfolding absolute_at
unparsed_is text none = by (is_absolute text) refl
  where
    by : (v : Bool) → is_absolute text ≡ v → ◌≡◌ {A = Option Absolute} (cond v (Some (parts_in text)) None) None
    by true is = absurd (none (Some (normal_scheme (scheme_in text))) (Some (authority_in text)) (kept_of (tail_in text)) (sound text is))
    by false is = refl

pub parsed_is : (text : List ℕ) (uri : Uri) → Spells text uri → parts_of uri ≡ absolute_at text
parsed_is text uri spells = form_is text (uri_scheme uri) (uri_authority uri) (uri_data uri) spells

pub has_uri_grammar : (text : List ℕ) → HasUriGrammar text
has_uri_grammar text scheme authority path = (λ u. sym (form_is text (Some scheme) (Some authority) path u), read_is text scheme authority path)
