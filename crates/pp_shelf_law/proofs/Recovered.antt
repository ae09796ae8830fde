-- Recovery of a folder without stray gates, name by name.
use Rattle.std.proofs.Common.{◌≡◌, refl, sym, subst, ap, ◌∙◌, inl, inr, Bool, true, false, ◌||◌, List, [], ◌∷◌, ◌++◌, append_assoc, length, map, arith}
use Rattle.std.proofs.lemmas.List.{append-nil, take_all}
use Rattle.std.specs.List.{list_any}
use Rattle.std.specs.Prelude.{bytes_eq}
use Rattle.pp_gate.specs.Runs.{Ran}
use Rattle.pp_law.specs.After.{unread}
use Rattle.pp_law.specs.Lists.{Bytes}
use Rattle.pp_law.specs.Opening.{opened_to}
use Rattle.pp_law.specs.State.{State, IsListed, IsRooted}
use Rattle.pp_laws.specs.Runs.{IsIn}
use Rattle.pp_obeys.proofs.Calls.{moves_to}
use Rattle.pp_obeys.proofs.Happenings.{goes_listed, goes_rooted}
use Rattle.pp_obeys.proofs.Silent.{or_second}
use Rattle.pp_obeys.specs.Moves.{Goes, MovesAll}
use Rattle.pp_obeys.proofs.Moving.{leads_then, moves_map}
use Rattle.pp_recover.proofs.NameLemmas.{Distinct, NotIn, distinct}
use Rattle.pp_recover.specs.Closing.{Tends}
use Rattle.pp_recover.specs.Opening.{IsFresh, Tended, TendsEach, failed_on, name_in}
use Rattle.pp_store.specs.Kept.{is_name}
use Rattle.pp_world.specs.Disk.{is_rising, names_in}
use Rattle.pp_world.specs.Files.{Files, file_of}
use Rattle.pp_world.specs.Log.{Log}
use Rattle.pp_world.specs.declared.happening.Happening.TheVariants.{Listed, Rooted, Unread}
use Rattle.pp_shelf_law.specs.Opening.{FoldersAreTheLaws, HasRecovered, HaveNoStrays, IsOpened, IsRecovering, RecoveriesAreTheLaws}
use Rattle.pp_shelf_law.proofs.Opened.{opened_ones}
use Rattle.pp_shelf_law.proofs.Recovering.{failed_more, none_failed, unread_names}
use Rattle.pp_shelf_law.proofs.Shelves.{bytes_same, same_bytes}

-- ---- it is used and listed

pub folders : FoldersAreTheLaws
unfolding opened_to
folders s folder none at idle done root =
    let rooted : Goes s (Rooted folder) (opened_to IsRooted true s) = goes_rooted s folder none at root in
    let listed : Goes (record s { phase = IsRooted }) (Listed true) (opened_to IsListed true (record s { phase = IsRooted })) = goes_listed (record s { phase = IsRooted }) true none refl in
    (moves_to refl rooted (moves_to refl listed refl), record { none = none; at = refl; idle = idle; done = done })

-- ---- names that are still to be looked at

-- each is one of the folder's, once, and nothing failed on it
abbrev AreLeft : Files → Log → List Tended → Type 0
AreLeft files log [] = Unit {0}
AreLeft files log (t ∷ ts) = (list_any (is_name t.name) (names_in files) ≡ true) × (failed_on log t.name ≡ false) × NotIn t.name (map name_in ts) × AreLeft files log ts

left_on : (files : Files) (log : Log) (name : Bytes) (ts : List Tended) → NotIn name (map name_in ts) → AreLeft files log ts → AreLeft files (log ++ Unread name ∷ []) ts
left_on files log name [] none left = tt
left_on files log name (t ∷ ts) none left = (left.0, sound (bytes_eq name t.name) refl, left.2, left_on files log name ts none.1 left.3)
  where
    sound : (b : Bool) → bytes_eq name t.name ≡ b → failed_on (log ++ Unread name ∷ []) t.name ≡ false
    sound true is = absurd (none.0 (sym (same_bytes name t.name is)))
    sound false is = failed_more log name t.name ∙ ap (λ (b : Bool). b || bytes_eq name t.name) left.1 ∙ is

among : (name : Bytes) (names : List Bytes) → IsIn name names → list_any (is_name name) names ≡ true
among name [] i = absurd i
among name (n ∷ names) (inl is) = ap (λ (b : Bool). b || list_any (is_name name) names) (ap (λ (k : Bytes). bytes_eq k name) (sym is) ∙ bytes_same name)
among name (n ∷ names) (inr i) = or_second (is_name name n) (list_any (is_name name) names) (among name names i)

all_left : (files : Files) (log : Log) → IsFresh files log → (ts : List Tended) → ((n : Bytes) → IsIn n (map name_in ts) → IsIn n (names_in files)) → Distinct (map name_in ts) → AreLeft files log ts
all_left files log fresh [] within apart = tt
all_left files log fresh (t ∷ ts) within apart = (among t.name (names_in files) (within t.name (inl refl)), none_failed files log fresh t.name, apart.0, all_left files log fresh ts (λ n i. within n (inr i)) apart.1)

-- ---- one after the other

record Opens (files : Files) (log : Log) (s : State) : Type 0 where
  is : IsOpened files log s
  rests : IsRecovering s

module _ (files : Files) (rising : is_rising (names_in files) ≡ true) (strays : HaveNoStrays files) where
  logs_same : (log one rest hs : Log) → hs ≡ one ++ rest → (log ++ one) ++ rest ≡ log ++ hs
  logs_same log one rest hs is = append_assoc log one rest ∙ ap (λ (k : Log). log ++ k) (sym is)

  -- a name, and the others behind it
  one_tended : (t : Tended) (ts : List Tended) (log one rest hs : Log) (s : State) → AreLeft files log (t ∷ ts) → hs ≡ one ++ rest → Tends t.name (file_of t.name files) t.sound one → Opens files log s
      → ((u : State) → AreLeft files (log ++ one) ts → Opens files (log ++ one) u → MovesAll (Opens files ((log ++ one) ++ rest)) rest u) → MovesAll (Opens files (log ++ hs)) hs s
  one_tended t ts log one rest hs s left whole (inl lost) opens then =
      let law = unread_names files log s t.name rising opens.is opens.rests left.0 left.1 in
      let behind : MovesAll (Opens files ((log ++ Unread t.name ∷ []) ++ rest)) rest (unread t.name s) =
      subst (λ (k : Log). AreLeft files (log ++ k) ts → Opens files (log ++ k) (unread t.name s) → MovesAll (Opens files ((log ++ k) ++ rest)) rest (unread t.name s)) lost.1 (then (unread t.name s))
      (left_on files log t.name ts left.2 left.3) (record { is = law.1; rests = law.2 }) in
      let whole_log : hs ≡ (Unread t.name ∷ []) ++ rest = whole ∙ ap (λ (k : Log). k ++ rest) lost.1 in
      subst (λ (k : Log). MovesAll (Opens files (log ++ hs)) k s) (sym whole_log)
      (leads_then (Opens files (log ++ hs)) (Unread t.name ∷ []) rest s (unread t.name s) law.0
      (subst (λ (k : Log). MovesAll (Opens files k) rest (unread t.name s)) (logs_same log (Unread t.name ∷ []) rest hs whole_log) behind))
  one_tended t ts log one rest hs s left whole (inr are) opens then =
      let none : one ≡ [] = (subst (λ ops. Ran ops t.sound one) (strays t.name) are).1 in
      let same : hs ≡ rest = whole ∙ ap (λ (k : Log). k ++ rest) none in
      let here : log ++ one ≡ log = ap (λ (k : Log). log ++ k) none ∙ append-nil log in
      subst (λ (k : Log). MovesAll (Opens files (log ++ hs)) k s) (sym same)
      (subst (λ (k : Log). MovesAll (Opens files k) rest s) (logs_same log one rest hs whole)
      (then s (subst (λ (k : Log). AreLeft files k ts) (sym here) left.3) (subst (λ (k : Log). Opens files k s) (sym here) opens)))

  all_tended : (ts : List Tended) (log hs : Log) (s : State) → AreLeft files log ts → TendsEach files ts hs → Opens files log s → MovesAll (Opens files (log ++ hs)) hs s
  all_tended [] log hs s left each opens =
      subst (λ (k : Log). MovesAll (Opens files (log ++ k)) k s) (sym each) (subst (λ (k : Log). Opens files k s) (sym (append-nil log)) opens)
  all_tended (t ∷ ts) log hs s left each opens = one_tended t ts log each.0 each.1 hs s left each.2 each.3 opens (λ u more_left more. all_tended ts (log ++ each.0) each.1 u more_left each.4 more)

pub recoveries : RecoveriesAreTheLaws
recoveries files log hs s files_rise names_rise few strays fresh tends is recovers =
    let names : map name_in tends.0 ≡ names_in files = tends.1 ∙ take_all (length (names_in files)) (names_in files) (omega arith) in
    let left : AreLeft files log tends.0 = all_left files log fresh tends.0 (λ n i. subst (λ (ns : List Bytes). IsIn n ns) names i) (subst Distinct (sym names) (distinct (names_in files) names_rise)) in
    moves_map (Opens files (log ++ hs)) (HasRecovered files (log ++ hs))
    (λ t opens. record { shows = opened_ones files (log ++ hs) t files_rise few opens.is; rests = opens.rests })
    hs s (all_tended files names_rise strays tends.0 log hs s left tends.2 (record { is = is; rests = recovers }))
