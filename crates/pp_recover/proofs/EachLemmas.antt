-- Names that were attended to, one after another.
use Rattle.std.proofs.Common.{◌≡◌, ℕ, suc, ◌+◌, ◌<◌, ◌≤◌, Bool, true, false, List, [], ◌∷◌, ◌++◌, length, take, get_or, Option, Some, None, refl, sym, ◌∙◌, ap, subst, arith, append_assoc}
use Rattle.std.specs.Prelude.{not, cond, bytes_eq, map, filter}
use Rattle.std.specs.List.{filter_map}
use Rattle.std.proofs.lemmas.List.{append-nil, map-append}
use Rattle.std.proofs.lemmas.List.Elements.{filter-append, filter_map-append}
use Rattle.std.proofs.lemmas.List.Sums.{fold-append}
use Rattle.std.proofs.lemmas.Slice.Eq.{bytes_eq-Decides}
use Rattle.std.proofs.Math.Seq.{take-suc}
use Rattle.pp_world.specs.declared.happening.Happening.{Happening}
use Rattle.pp_world.specs.Files.{Files, file_of}
use Rattle.pp_world.specs.Log.{Log, Told}
use Rattle.pp_world.specs.Disk.{Bytes, View, at_rest, woken, view_of, view_after, Stands}
use Rattle.pp_gate.proofs.Views.{view_from, view_of-append}
use Rattle.pp_gate.proofs.Ops.{AllLeft}
use Rattle.pp_store.specs.Changes.{no_entries}
use Rattle.pp_store.specs.Kept.{Kept, KeptMap}
use Rattle.pp_recover.specs.Image.{entry_of}
use Rattle.pp_recover.specs.Closing.{Tends}
use Rattle.pp_recover.specs.Looks.{Extends}
use Rattle.pp_recover.specs.Opening.{IsFresh, Tended, name_in, TendsEach, TendsOne, TendsNames, with_tended, with_entry, entry_if, is_lost, store_of}
use Rattle.pp_recover.proofs.LookLemmas.{extends_then, extends_map}
use Rattle.pp_recover.proofs.NameLemmas.{NotIn, Distinct}
use Rattle.pp_recover.proofs.TendLemmas.{tends_other, tends_stays, at_rest_stays}
use Rattle.pp_recover.proofs.ShutLemmas.{Stays}

-- a front of two parts is a front of the first, or the first and a front of the second
pub data Front (a b p q : Log) : Type 0 where
  within : (r : Log) → a ≡ p ++ r → Front a b p q
  beyond : (r : Log) → p ≡ a ++ r → b ≡ r ++ q → Front a b p q

front_more : (h g : Happening) (a b p q : Log) → h ≡ g → Front a b p q → Front (h ∷ a) b (g ∷ p) q
front_more h g a b p q same (within r is) = within r (cc)
front_more h g a b p q same (beyond r is rest) = beyond r (cc) rest

front_of : (a b p q : Log) → a ++ b ≡ p ++ q → Front a b p q
front_of [] b p q is = beyond p refl is
front_of (h ∷ a) b [] q is = within (h ∷ a) refl
front_of (h ∷ a) b (g ∷ p) q is =
    let first : h ≡ g = cc in
    let rest : a ++ b ≡ p ++ q = cc in
    front_more h g a b p q first (front_of a b p q rest)

pub view_then : (name : Bytes) (v : View) (a b : Log) → view_from name v (a ++ b) ≡ view_from name (view_from name v a) b
view_then name v a b = fold-append (view_after name) v a b

nil_front : (p q : Log) → [] ≡ p ++ q → [] ≡ p
nil_front [] q is = refl
nil_front (h ∷ p) q is = absurd (cc)

module _ (files : Files) where
  -- ---- a name that is not among them
  pub each_other : (name : Bytes) (ts : List Tended) (v : View) (hs p q : Log) → NotIn name (map name_in ts) → TendsEach files ts hs → hs ≡ p ++ q → view_from name v p ≡ v
  each_other name [] v hs p q not_in each split = ap (view_from name v) (sym (nil_front p q (sym each ∙ split)))
  each_other name (t ∷ ts) v hs p q not_in each split = by (front_of each.0 each.1 p q (sym each.2 ∙ split)) (λ r rest. each_other name ts v each.1 r q not_in.1 each.4 rest)
    where
      by : Front each.0 each.1 p q → ((r : Log) → each.1 ≡ r ++ q → view_from name v r ≡ v) → view_from name v p ≡ v
      by (within r is) rest = tends_other t.name name not_in.0 (file_of t.name files) t.sound v each.0 p r each.3 is
      by (beyond r is there) rest =
          ap (view_from name v) is ∙ view_then name v each.0 r
          ∙ ap (λ (w : View). view_from name w r) (tends_other t.name name not_in.0 (file_of t.name files) t.sound v each.0 each.0 [] each.3 (sym (append-nil each.0)))
          ∙ rest r there

  pub whole_other : (name : Bytes) (ts : List Tended) (v : View) (hs : Log) → NotIn name (map name_in ts) → TendsEach files ts hs → view_from name v hs ≡ v
  whole_other name ts v hs not_in each = each_other name ts v hs hs [] not_in each (sym (append-nil hs))

  -- ---- what a crash leaves at each moment
  pub each_stays : (name : Bytes) (ts : List Tended) (v : View) (hs p q : Log) → Distinct (map name_in ts) → v.slot ≡ at_rest (file_of name files) ∷ [] → v.failed ≡ false → TendsEach files ts hs → hs ≡ p ++ q → AllLeft (Stays name (file_of name files)) (view_from name v p)
  each_stays name [] v hs p q apart slot sound each split = subst (λ (l : Log). AllLeft (Stays name (file_of name files)) (view_from name v l)) (nil_front p q (sym each ∙ split)) (at_rest_stays name (file_of name files) v slot)
  each_stays name (t ∷ ts) v hs p q apart slot sound each split =
      by (bytes_eq t.name name) (bytes_eq-Decides t.name name) (front_of each.0 each.1 p q (sym each.2 ∙ split))
      (λ w r w_slot w_sound rest. each_stays name ts w each.1 r q apart.1 w_slot w_sound each.4 rest)
    where
      here : t.name ≡ name → Tends name (file_of name files) t.sound each.0
      here same = subst (λ (n : Bytes). Tends n (file_of n files) t.sound each.0) same each.3

      left_whole : t.name ≡ name → AllLeft (Stays name (file_of name files)) (view_from name v each.0)
      left_whole same = tends_stays name (file_of name files) t.sound v each.0 each.0 [] slot sound (here same) (sym (append-nil each.0))

      others : (r : Log) → each.1 ≡ r ++ q → t.name ≡ name → view_from name (view_from name v each.0) r ≡ view_from name v each.0
      others r rest same = each_other name ts (view_from name v each.0) each.1 r q (subst (λ (n : Bytes). NotIn n (map name_in ts)) same apart.0) each.4 rest

      Goal : Type 0
      Goal = AllLeft (Stays name (file_of name files)) (view_from name v p)

      at_front : (l : Log) → p ≡ l → AllLeft (Stays name (file_of name files)) (view_from name v l) → AllLeft (Stays name (file_of name files)) (view_from name v p)
      at_front l is left = subst (λ (m : Log). AllLeft (Stays name (file_of name files)) (view_from name v m)) (sym is) left

      by : (b : Bool) → ((b ≡ true → t.name ≡ name) × (t.name ≡ name → b ≡ true)) → Front each.0 each.1 p q
          → ((w : View) (r : Log) → w.slot ≡ at_rest (file_of name files) ∷ [] → w.failed ≡ false → each.1 ≡ r ++ q → AllLeft (Stays name (file_of name files)) (view_from name w r))
          → AllLeft (Stays name (file_of name files)) (view_from name v p)
      by true decides (within r is) rest = tends_stays name (file_of name files) t.sound v each.0 p r slot sound (here (decides.0 refl)) is
      by true decides (beyond r is there) rest = at_front (each.0 ++ r) is
          (subst (AllLeft (Stays name (file_of name files))) (sym (view_then name v each.0 r ∙ others r there (decides.0 refl))) (left_whole (decides.0 refl)))
      by false decides (within r is) rest =
          subst (AllLeft (Stays name (file_of name files))) (sym (tends_other t.name name (λ same. absurd (let bad : false ≡ true = decides.1 same in cc)) (file_of t.name files) t.sound v each.0 p r each.3 is)) (at_rest_stays name (file_of name files) v slot)
      by false decides (beyond r is there) rest = at_front (each.0 ++ r) is
          (subst (AllLeft (Stays name (file_of name files)))
          (sym (view_then name v each.0 r ∙ ap (λ (w : View). view_from name w r) (tends_other t.name name (λ same. absurd (let bad : false ≡ true = decides.1 same in cc)) (file_of t.name files) t.sound v each.0 each.0 [] each.3 (sym (append-nil each.0)))))
          (rest v r slot sound there))

  -- ---- one more
  pub each_more : (ts : List Tended) (t : Tended) (hs one : Log) → TendsEach files ts hs → Tends t.name (file_of t.name files) t.sound one → TendsEach files (ts ++ t ∷ []) (hs ++ one)
  each_more [] t hs one each more = (one, [], ap (λ (l : Log). l ++ one) each ∙ sym (append-nil one), more, refl)
  each_more (s ∷ ts) t hs one each more =
      (each.0, each.1 ++ one, ap (λ (l : Log). l ++ one) each.2 ∙ append_assoc each.0 each.1 one, each.3, each_more ts t each.1 one each.4 more)

  rows_one : (e : Option Kept) (rows closed : List _) → record { rows = rows ++ filter_map (λ (x : Option Kept). x) (e ∷ []); closed = closed } ≡ with_entry e (record { rows = rows; closed = closed })
  rows_one None rows closed = ap (λ (rs : List Kept). record { rows = rs; closed = closed }) (append-nil rows)
  rows_one (Some kept) rows closed = refl

  pub store_more : (ts : List Tended) (t : Tended) → store_of files (ts ++ t ∷ []) ≡ with_tended t.name (file_of t.name files) t.sound (store_of files ts)
  store_more ts t =
      ap (λ (rs : List Kept). record { rows = rs; closed = map name_in (filter is_lost (ts ++ t ∷ [])) }) (filter_map-append (entry_if files) ts (t ∷ []))
      ∙ ap (λ (cs : List Bytes). record { rows = filter_map (entry_if files) ts ++ filter_map (entry_if files) (t ∷ []); closed = cs }) (ap (map name_in) (filter-append is_lost ts (t ∷ [])) ∙ map-append name_in (filter is_lost ts) (filter is_lost (t ∷ [])))
      ∙ by t.sound refl
    where
      by : (b : Bool) → t.sound ≡ b → record { rows = filter_map (entry_if files) ts ++ filter_map (entry_if files) (t ∷ []); closed = map name_in (filter is_lost ts) ++ map name_in (filter is_lost (t ∷ [])) } ≡ with_tended t.name (file_of t.name files) t.sound (store_of files ts)
      by true is =
          ap (λ (s : Bool). record { rows = filter_map (entry_if files) ts ++ filter_map (λ (x : Option Kept). x) (cond s (entry_of t.name (file_of t.name files)) None ∷ []); closed = map name_in (filter is_lost ts) ++ map name_in (cond (not s) (t ∷ []) []) }) is
          ∙ rows_one (entry_of t.name (file_of t.name files)) (filter_map (entry_if files) ts) (map name_in (filter is_lost ts) ++ [])
          ∙ ap (λ (cs : List Bytes). with_entry (entry_of t.name (file_of t.name files)) (record { rows = filter_map (entry_if files) ts; closed = cs })) (append-nil (map name_in (filter is_lost ts)))
          ∙ ap (λ (s : Bool). with_tended t.name (file_of t.name files) s (store_of files ts)) (sym is)
      by false is =
          ap (λ (s : Bool). record { rows = filter_map (entry_if files) ts ++ filter_map (λ (x : Option Kept). x) (cond s (entry_of t.name (file_of t.name files)) None ∷ []); closed = map name_in (filter is_lost ts) ++ map name_in (cond (not s) (t ∷ []) []) }) is
          ∙ ap (λ (rs : List Kept). record { rows = rs; closed = map name_in (filter is_lost ts) ++ t.name ∷ [] }) (append-nil (filter_map (entry_if files) ts))
          ∙ ap (λ (s : Bool). with_tended t.name (file_of t.name files) s (store_of files ts)) (sym is)

-- ---- the loop
abbrev pub SoFar : Files → List Bytes → KeptMap → Log → Type 0
SoFar files names store hs = (ts : List Tended) × (map name_in ts ≡ names) × TendsEach files ts hs × (store ≡ store_of files ts)

abbrev pub SoFarAll : List Bytes → KeptMap → Log → Log → Type 0
SoFarAll names store before hs = (files : Files) → IsFresh files before → SoFar files names store hs

-- a name that is not among them stands as it did
pub still_stands : (files : Files) (name : Bytes) (names : List Bytes) (store : KeptMap) (k hs : Log) → IsFresh files k → NotIn name names → SoFar files names store hs → Stands name (k ++ hs) (at_rest (file_of name files))
still_stands files name names store k hs fresh not_in so_far =
    let same : view_of name (k ++ hs) ≡ woken name files =
    view_of-append name k hs ∙ whole_other files name so_far.0 (view_of name k) hs (subst (NotIn name) (sym so_far.1) not_in) so_far.2 ∙ fresh.views name in
    record { alone = ap (λ (v : View). v.slot) same; sound = ap (λ (v : View). v.failed) same }

pub stands_now : (old mid : Option Log) (name : Bytes) (names : List Bytes) (store : KeptMap) → NotIn name names → Told old (λ l. (files : Files) × IsFresh files l) → Extends old mid (SoFarAll names store) → Told mid (λ l. (file : Option Bytes) × Stands name l (at_rest file))
stands_now old mid name names store not_in told so_far = record {
  at = λ l is.
      let w = so_far.was l is in
      let fresh = told.at w.0 w.2 in
      (file_of name fresh.0, subst (λ (m : Log). Stands name m (at_rest (file_of name fresh.0))) (sym w.3) (still_stands fresh.0 name names store w.0 w.1 fresh.1 not_in (w.4 fresh.0 fresh.1)));
}

pub one_more : (old mid new : Option Log) (names : List Bytes) (name : Bytes) (before after : KeptMap) → NotIn name names → Extends old mid (SoFarAll names before) → Extends mid new (TendsOne name before after true) → Extends old new (SoFarAll (names ++ name ∷ []) after)
one_more old mid new names name before after not_in so_far one = extends_then old mid new (SoFarAll names before) (TendsOne name before after true) (SoFarAll (names ++ name ∷ []) after) so_far one
    (λ k a b first second files fresh.
    let had = first files fresh in
    let got = second (file_of name files) (still_stands files name names before k a fresh not_in had) in (
      had.0 ++ record { name = name; sound = got.0 } ∷ [],
      map-append name_in had.0 (record { name = name; sound = got.0 } ∷ []) ∙ ap (λ (ns : List Bytes). ns ++ name ∷ []) had.1,
      each_more files had.0 (record { name = name; sound = got.0 }) a b had.2 got.1,
      got.2 refl ∙ ap (with_tended name (file_of name files) got.0) had.3 ∙ sym (store_more files had.0 (record { name = name; sound = got.0 })),
    ))

pub none_yet : (log : Option Log) (store : KeptMap) → store ≡ no_entries → Extends log log (SoFarAll [] store)
none_yet log store is = record { was = λ l told. (l, [], told, sym (append-nil l), λ files fresh. ([], refl, refl, is)) }

pub take_more : (names : List Bytes) (i : ℕ) → i < length names → take (i + 1) names ≡ take i names ++ get_or names i [] ∷ []
take_more names i lt = let one : i + 1 ≡ suc i = omega arith in ap (λ (k : ℕ). take k names) one ∙ take-suc names i [] lt

-- the whole of it, or a front
pub all_names : (old new : Option Log) (names : List Bytes) (i : ℕ) (store : KeptMap) → length names ≤ i → Extends old new (SoFarAll (take i names) store)
    → Extends old new (λ before hs. (files : Files) → IsFresh files before → TendsNames files names true store hs)
all_names old new names i store over so_far = extends_map old new (SoFarAll (take i names) store) _ so_far
    (λ k hs w files fresh. let had = w files fresh in (i, had.0, had.1, had.2, λ done. (had.1 ∙ Rattle.std.proofs.lemmas.List.take_all i names over, had.3)))

pub some_names : (old mid new : Option Log) (names : List Bytes) (i : ℕ) (before after : KeptMap) (done : Bool) → done ≡ false → i < length names → NotIn (get_or names i []) (take i names) → Extends old mid (SoFarAll (take i names) before) → Extends mid new (TendsOne (get_or names i []) before after false)
    → Extends old new (λ was hs. (files : Files) → IsFresh files was → TendsNames files names done after hs)
some_names old mid new names i before after done not_done lt not_in so_far one = extends_then old mid new (SoFarAll (take i names) before) (TendsOne (get_or names i []) before after false) _ so_far one
    (λ k a b first second files fresh.
    let had = first files fresh in
    let got = second (file_of (get_or names i []) files) (still_stands files (get_or names i []) (take i names) before k a fresh not_in had) in (
      i + 1,
      had.0 ++ record { name = get_or names i []; sound = got.0 } ∷ [],
      map-append name_in had.0 (record { name = get_or names i []; sound = got.0 } ∷ []) ∙ ap (λ (ns : List Bytes). ns ++ get_or names i [] ∷ []) had.1 ∙ sym (take_more names i lt),
      each_more files had.0 (record { name = get_or names i []; sound = got.0 }) a b had.2 got.1,
      λ is. absurd (let bad : true ≡ false = sym is ∙ not_done in cc),
    ))
