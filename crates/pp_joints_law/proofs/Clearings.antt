-- Which entries stand for no row any more, where a key is cleared, among any number of names.
use Rattle.std.proofs.Common.{◌≡◌, refl, sym, ap, ◌∙◌, Bool, true, false, not, ◌&&◌, ◌||◌, cond, List, [], ◌∷◌, ◌++◌, map, filter}
use Rattle.std.proofs.lemmas.Slice.Eq.{bytes_eq-Decides}
use Rattle.std.specs.List.{list_any}
use Rattle.std.specs.Prelude.{bytes_eq, ⊤}
use Rattle.pp_cache_law.proofs.Numbers.{true_false}
use Rattle.pp_cache_law.specs.Outdated.{AreNamed, AreNoted}
use Rattle.pp_joints_law.proofs.Names.{any_both, or_true, same_bytes}
use Rattle.pp_law.specs.Lists.{Bytes, change, has_text}
use Rattle.pp_law.specs.State.{Entry}
use Rattle.pp_law.specs.Table.{is_entry_of, is_namesake}
use Rattle.pp_target.specs.Name.{name_of}

abbrev pub stale : Entry → Entry
stale e = record e { is_stale = true }

abbrev pub keys_of : Bytes → List Entry → List Bytes
keys_of key es = map (λ (d : Entry). d.key) (filter (is_namesake key) es)

-- each namesake is among these
abbrev Have : Bytes → List Bytes → List Entry → Type 0
Have key keys [] = ⊤
Have key keys (e ∷ es) = (is_namesake key e ≡ true → has_text e.key keys ≡ true) × Have key keys es

have_more : (key : Bytes) (k : Bytes) (keys : List Bytes) (es : List Entry) → Have key keys es → Have key (k ∷ keys) es
have_more key k keys [] all = tt
have_more key k keys (e ∷ es) all = (λ is. ap (λ (b : Bool). bytes_eq k e.key || b) (all.0 is) ∙ or_true (bytes_eq k e.key), have_more key k keys es all.1)

have_all : (key : Bytes) (es : List Entry) → Have key (keys_of key es) es
have_all key [] = tt
have_all key (e ∷ es) = by (is_namesake key e) refl (have_all key es)
  where
    by : (b : Bool) → is_namesake key e ≡ b → Have key (keys_of key es) es → Have key (map (λ (d : Entry). d.key) (cond b (e ∷ filter (is_namesake key) es) (filter (is_namesake key) es))) (e ∷ es)
    by true is rest = (λ same. ap (λ (b : Bool). b || has_text e.key (keys_of key es)) (same_bytes e.key), have_more key e.key (keys_of key es) es rest)
    by false isnt rest = (λ is. absurd (true_false (sym is ∙ isnt)), rest)

-- and no key of another name
none_else : (key k : Bytes) (es : List Entry) → AreNamed es → bytes_eq (name_of k) (name_of key) ≡ false → has_text k (keys_of key es) ≡ false
none_else key k [] named apart = refl
none_else key k (e ∷ es) named apart = by (bytes_eq e.name (name_of key)) refl (bytes_eq e.key key) (none_else key k es named.1 apart)
  where
    not_it : bytes_eq e.name (name_of key) ≡ true → (b : Bool) → bytes_eq e.key k ≡ b → b ≡ false
    not_it is true f = absurd (true_false (sym is ∙ ap (λ (n : Bytes). bytes_eq n (name_of key)) (named.0 ∙ ap name_of ((bytes_eq-Decides e.key k).0 f)) ∙ apart))
    not_it is false f = refl

    by : (n : Bool) → bytes_eq e.name (name_of key) ≡ n → (a : Bool) → has_text k (keys_of key es) ≡ false → has_text k (map (λ (d : Entry). d.key) (cond (not a && n) (e ∷ filter (is_namesake key) es) (filter (is_namesake key) es))) ≡ false
    by true is true rest = rest
    by true is false rest = ap (λ (b : Bool). b || has_text k (keys_of key es)) (not_it is (bytes_eq e.key k) refl) ∙ rest
    by false isnt true rest = rest
    by false isnt false rest = rest

cleared_noted : (key : Bytes) (names displaced keys : List Bytes) (es : List Entry) → ((k : Bytes) → bytes_eq (name_of k) (name_of key) ≡ false → has_text k keys ≡ false) → AreNoted names displaced es → AreNamed es → Have key keys es
    → AreNoted (name_of key ∷ names) (keys ++ displaced) (change (is_entry_of key) stale es)
cleared_noted key names displaced keys [] none noted named have = tt
cleared_noted key names displaced keys (e ∷ es) none noted named have =
    (by (bytes_eq e.key key) refl (bytes_eq e.name (name_of key)) refl, cleared_noted key names displaced keys es none noted.1 named.1 have.1)
  where
    all : has_text e.key (keys ++ displaced) ≡ (has_text e.key keys || has_text e.key displaced)
    all = any_both (λ t. bytes_eq t e.key) keys displaced

    namesake : bytes_eq e.key key ≡ false → bytes_eq e.name (name_of key) ≡ true → is_namesake key e ≡ true
    namesake apart is = ap (λ (b : Bool). not b && bytes_eq e.name (name_of key)) apart ∙ is

    noted_one : (b : Bool) → bytes_eq e.name (name_of key) ≡ b → (b || list_any (bytes_eq e.name) names) ≡ list_any (bytes_eq e.name) (name_of key ∷ names)
    noted_one b is = ap (λ (c : Bool). c || list_any (bytes_eq e.name) names) (sym is)

    by : (a : Bool) → bytes_eq e.key key ≡ a → (n : Bool) → bytes_eq e.name (name_of key) ≡ n
        → ((elim a as (λ c. Entry) [ true ↦ stale e | false ↦ e ]).is_stale || has_text (elim a as (λ c. Entry) [ true ↦ stale e | false ↦ e ]).key (keys ++ displaced))
        ≡ list_any (bytes_eq (elim a as (λ c. Entry) [ true ↦ stale e | false ↦ e ]).name) (name_of key ∷ names)
    by true own true is = noted_one true is
    by true own false isnt =
        absurd (true_false (sym (same_bytes (name_of key)) ∙ ap (λ (n : Bytes). bytes_eq n (name_of key)) (ap name_of (sym ((bytes_eq-Decides e.key key).0 own)) ∙ sym named.0) ∙ isnt))
    by false apart true is =
        ap (λ (b : Bool). e.is_stale || b) (all ∙ ap (λ (b : Bool). b || has_text e.key displaced) (have.0 (namesake apart is))) ∙ or_true e.is_stale ∙ noted_one true is
    by false apart false isnt =
        ap (λ (b : Bool). e.is_stale || b) (all ∙ ap (λ (b : Bool). b || has_text e.key displaced) (none e.key (ap (λ (n : Bytes). bytes_eq n (name_of key)) (sym named.0) ∙ isnt)))
        ∙ noted.0 ∙ noted_one false isnt

pub key_noted : (key : Bytes) (names displaced : List Bytes) (es : List Entry) → AreNoted names displaced es → AreNamed es → AreNoted (name_of key ∷ names) (keys_of key es ++ displaced) (change (is_entry_of key) stale es)
key_noted key names displaced es noted named = cleared_noted key names displaced (keys_of key es) es (λ k apart. none_else key k es named apart) noted named (have_all key es)

-- each has the name of its key still
pub stay_named : (key : Bytes) (es : List Entry) → AreNamed es → AreNamed (change (is_entry_of key) stale es)
stay_named key [] all = tt
stay_named key (e ∷ es) all = (by (is_entry_of key e), stay_named key es all.1)
  where
    by : (b : Bool) → (elim b as (λ c. Entry) [ true ↦ stale e | false ↦ e ]).name ≡ name_of (elim b as (λ c. Entry) [ true ↦ stale e | false ↦ e ]).key
    by true = all.0
    by false = all.0

-- where the same names are noted
pub noted_alike : (ks bs displaced : List Bytes) (es : List Entry) → ((n : Bytes) → list_any (bytes_eq n) ks ≡ list_any (bytes_eq n) bs) → AreNoted ks displaced es → AreNoted bs displaced es
noted_alike ks bs displaced [] same all = tt
noted_alike ks bs displaced (e ∷ es) same all = (all.0 ∙ same e.name, noted_alike ks bs displaced es same all.1)
