-- What holds of the names under which files stand, and how operations keep it.
use Rattle.std.proofs.Common.{◌≡◌, ◌⊎◌, ⊎_elim, refl, ℕ, ◌<◌, ◌≤◌, Bool, true, false, ◌||◌, not, List, [], ◌∷◌, ◌++◌, length, map, bytes_eq, Option, Some, None, inl, inr, sym, subst, ap, ◌∙◌, arith}
use Rattle.std.specs.Prelude.{fold}
use Rattle.std.proofs.lemmas.List.Sums.{fold-append}
use Rattle.pp_gate.specs.Runs.{During, IsOn}
use Rattle.pp_gate.proofs.Ops.{AllLeft}
use Rattle.pp_world.specs.Disk.{LeavesOne, View, began, done, undone, view_of, where_on}
use Rattle.pp_world.specs.Log.{Log}
use Rattle.pp_world.specs.declared.happening.Happening.{Happening}
use Rattle.pp_world.specs.declared.happening.Happening.TheVariants.{Woke, Began, Did}
use Rattle.pp_world.specs.declared.op.DiskOp.{DiskOp}
use Rattle.pp_world.specs.declared.op.DiskOp.TheVariants.{Draft, SyncDraft, Publish, Write, Sync, Remove}
use Rattle.pp_law.specs.Entries.{entries_in, entry_in}
use Rattle.pp_law.specs.Lists.{Bytes, has_text, without}
use Rattle.pp_law.specs.State.{Entry, Agenda, Todo, Do, Enter, Acknowledge}
use Rattle.pp_laws.specs.Runs.{IsIn}
use Rattle.pp_laws.proofs.Lists.{in_filter}
use Rattle.pp_laws_crash.proofs.Going.{ops_of}
use Rattle.pp_laws_crash.proofs.Inv.{same_or}
use Rattle.pp_laws_crash.proofs.Views.{during_now, left_same, name_same, other_began, other_done, undone_slot, view_more}
use Rattle.pp_laws_found.proofs.Apart.{AreApart, apart_filter, apart_push, fewer, into_without, out_of}
use Rattle.pp_laws_found.proofs.FoundInv.{HasEntry, IsKnown, last_entry, pushed_entry}

-- ---- the names of entries, read off the log of the disk

-- those that the life found, and what was published and not removed since
abbrev pub names_after : List Bytes → Happening → List Bytes
names_after names (Woke image) = map (λ e. e.name) (entries_in image)
names_after names (Began (Publish n)) = n ∷ without (bytes_eq n) names
names_after names (Did (Remove n) true) = without (bytes_eq n) names
names_after names happening = names

abbrev pub entry_names : Log → List Bytes
entry_names disk = fold names_after [] disk

names_more : (disk : Log) (h : Happening) → entry_names (disk ++ h ∷ []) ≡ names_after (entry_names disk) h
names_more disk h = fold-append names_after [] disk (h ∷ [])

-- ---- what is left to do

abbrev pub IsEntryAt : Bytes → Bytes → Type 0
IsEntryAt name file = (e : Entry) × (entry_in name file ≡ Some e)

-- no file, or an entry
abbrev pub CleanAt : Bytes → Option Bytes → Type 0
CleanAt name None = Unit {0}
CleanAt name (Some file) = IsEntryAt name file

abbrev pub moves_by : DiskOp → Bool
moves_by (Draft bytes) = false
moves_by SyncDraft = false
moves_by (Publish n) = true
moves_by (Write n at bytes) = false
moves_by (Sync n) = false
moves_by (Remove n) = true

abbrev pub is_removal : DiskOp → Bool
is_removal (Draft bytes) = false
is_removal SyncDraft = false
is_removal (Publish n) = false
is_removal (Write n at bytes) = false
is_removal (Sync n) = false
is_removal (Remove n) = true

abbrev pub moves_next : List Todo → Bool
moves_next [] = false
moves_next (Do op ∷ todo) = is_removal op
moves_next (Enter e ∷ todo) = true
moves_next (Acknowledge key tag n extent ∷ todo) = false

-- its name is new, or about to be no entry's any more
abbrev pub moves : List Todo → Option DiskOp → Bool
moves todo None = moves_next todo
moves todo (Some op) = moves_by op

abbrev pub is_publishing : DiskOp → Bool
is_publishing (Draft bytes) = false
is_publishing SyncDraft = false
is_publishing (Publish n) = true
is_publishing (Write n at bytes) = false
is_publishing (Sync n) = false
is_publishing (Remove n) = false

-- something is still published
abbrev pub publishes : List Todo → Bool
publishes [] = false
publishes (Do op ∷ todo) = is_publishing op || publishes todo
publishes (Enter e ∷ todo) = publishes todo
publishes (Acknowledge key tag n extent ∷ todo) = publishes todo

-- an operation on a file that stands
abbrev pub is_of_file : DiskOp → Bool
is_of_file (Draft bytes) = false
is_of_file SyncDraft = false
is_of_file (Publish n) = false
is_of_file (Write n at bytes) = true
is_of_file (Sync n) = true
is_of_file (Remove n) = true

abbrev pub touches : List Todo → Bool
touches [] = false
touches (Do op ∷ todo) = is_of_file op || touches todo
touches (Enter e ∷ todo) = touches todo
touches (Acknowledge key tag n extent ∷ todo) = touches todo

-- what is published is entered next, and a removal is the last of it
abbrev pub Follows : DiskOp → List Todo → Type 0
Follows (Draft bytes) todo = Unit {0}
Follows SyncDraft todo = Unit {0}
Follows (Publish n) todo = (moves_next todo ≡ true) × (publishes todo ≡ false) × (touches todo ≡ false)
Follows (Write n at bytes) todo = publishes todo ≡ false
Follows (Sync n) todo = publishes todo ≡ false
Follows (Remove n) todo = todo ≡ []

abbrev pub AreShaped : Bytes → List Todo → Type 0
AreShaped name [] = Unit {0}
AreShaped name (Do op ∷ todo) = Follows op todo × AreShaped name todo
AreShaped name (Enter e ∷ todo) = (e.name ≡ name) × AreShaped name todo
AreShaped name (Acknowledge key tag n extent ∷ todo) = AreShaped name todo

-- at each moment of it what a crash leaves is an entry; a name that is published has room; one that is written stands
pub record CountsOn (others names : List Bytes) (name : Bytes) (todo : List Todo) (v : View) : Type 0 where
  pub during : (IsIn name others → ⊥) → During name v (ops_of todo) (AllLeft (CleanAt name))
  pub room : publishes todo ≡ true → length names < 10000
  pub stands : touches todo ≡ true → IsIn name names
  pub shaped : AreShaped name todo

pub record CountsMid (others names : List Bytes) (name : Bytes) (todo : List Todo) (op : DiskOp) (v : View) : Type 0 where
  pub now : (is_of_file op || is_publishing op) ≡ true → IsIn name names
  pub follows : Follows op todo
  pub then : CountsOn others names name todo (done name op v)

abbrev pub CountsGo : List Bytes → List Bytes → Bytes → List Todo → Option DiskOp → View → Type 0
CountsGo others names name todo None v = CountsOn others names name todo v
CountsGo others names name todo (Some op) v = CountsMid others names name todo op v

-- the files of all names
pub record AllCounted (others : List Bytes) (disk : Log) : Type 0 where
  pub clean : (n : Bytes) → (IsIn n others → ⊥) → AllLeft (CleanAt n) (view_of n disk)
  pub covers : (n file : Bytes) → LeavesOne (view_of n disk).slot (Some file) → IsEntryAt n file → IsIn n (entry_names disk)
  pub apart : AreApart (entry_names disk)
  pub few : length (entry_names disk) ≤ 10000

pub record CountsOf (others : List Bytes) (disk : Log) (agenda : Agenda) (under_way : Option DiskOp) (closed : List Bytes) (entries : List Entry) : Type 0 where
  pub all : AllCounted others disk
  pub known : (n : Bytes) → IsIn n (entry_names disk) → IsKnown closed entries n ⊎ ((n ≡ agenda.name) × (moves agenda.todo under_way ≡ true))
  pub going : has_text agenda.name closed ≡ false → CountsGo others (entry_names disk) agenda.name agenda.todo under_way (view_of agenda.name disk)

-- ---- nothing is left to do

abbrev pub AllNamed : Log → List Bytes → List Entry → Type 0
AllNamed disk closed entries = (n : Bytes) → IsIn n (entry_names disk) → IsKnown closed entries n

pub counts_rest : {others : List Bytes} {disk : Log} {closed : List Bytes} {entries : List Entry} → AllCounted others disk → AllNamed disk closed entries → (agenda : Agenda) → agenda.todo ≡ [] → CountsOf others disk agenda None closed entries
counts_rest {others} {disk} {closed} {entries} all known agenda nothing = record {
  all = all;
  known = λ n i. inl (known n i);
  going = λ isnt. subst (λ todo. CountsOn others (entry_names disk) agenda.name todo (view_of agenda.name disk)) (sym nothing)
      (record { during = λ out. all.clean agenda.name out; room = λ is. absurd (cc is); stands = λ is. absurd (cc is); shaped = tt });
}

-- of a state in which nothing moves
pub named_now : {others : List Bytes} {disk : Log} {agenda : Agenda} {under_way : Option DiskOp} {closed : List Bytes} {entries : List Entry} → moves agenda.todo under_way ≡ false → CountsOf others disk agenda under_way closed entries → AllNamed disk closed entries
named_now still h n i = ⊎_elim (λ (is : IsKnown _ _ n). is) (λ (is : _). let both : false ≡ true = sym still ∙ is.1 in absurd (cc both)) (h.known n i)

-- ---- one happening on the disk

or_true : (a b : Bool) → b ≡ true → (a || b) ≡ true
or_true true b is = refl
or_true false b is = is

true_or : (a b : Bool) → a ≡ true → (a || b) ≡ true
true_or true b is = refl
true_or false b is = absurd (cc is)

grows : (op : DiskOp) (names : List Bytes) (n : Bytes) → IsIn n names → IsIn n (names_after names (Began op))
grows (Draft b) names n i = i
grows SyncDraft names n i = i
grows (Publish m) names n i = same_or n m (λ is. inl is) (λ differ. inr (into_without m n names i (λ is. differ (sym is))))
grows (Write m at b) names n i = i
grows (Sync m) names n i = i
grows (Remove m) names n i = i

apart_began : (op : DiskOp) (names : List Bytes) → AreApart names → AreApart (names_after names (Began op))
apart_began (Draft b) names a = a
apart_began SyncDraft names a = a
apart_began (Publish m) names a = apart_push m names a
apart_began (Write m at b) names a = a
apart_began (Sync m) names a = a
apart_began (Remove m) names a = a

few_began : (op : DiskOp) (names : List Bytes) → length names ≤ 10000 → (is_publishing op ≡ true → length names < 10000) → length (names_after names (Began op)) ≤ 10000
few_began (Draft b) names few room = few
few_began SyncDraft names few room = few
few_began (Publish m) names few room = let less = room refl in omega (arith, fewer m names, less)
few_began (Write m at b) names few room = few
few_began (Sync m) names few room = few
few_began (Remove m) names few room = few

-- what a crash may leave of the name it is on, once it began
covered_began : (name : Bytes) (op : DiskOp) (names : List Bytes) (v : View) → IsOn name op → ((is_of_file op) ≡ true → IsIn name names) → ((file : Bytes) → LeavesOne v.slot (Some file) → IsEntryAt name file → IsIn name names)
    → (file : Bytes) → LeavesOne (began name op v).slot (Some file) → IsEntryAt name file → IsIn name (names_after names (Began op))
covered_began name (Draft b) names v on stands covers file left e = covers file left e
covered_began name SyncDraft names v on stands covers file left e = covers file left e
covered_began name (Publish m) names v on stands covers file left e = inl (sym on)
covered_began name (Write m at b) names v on stands covers file left e = stands refl
covered_began name (Sync m) names v on stands covers file left e = stands refl
covered_began name (Remove m) names v on stands covers file left e = stands refl

known_began : {A : Bytes → Type 0} (name : Bytes) (op : DiskOp) (todo : List Todo) (names : List Bytes) → IsOn name op → ((n : Bytes) → IsIn n names → A n ⊎ ((n ≡ name) × (is_removal op ≡ true)))
    → (n : Bytes) → IsIn n (names_after names (Began op)) → A n ⊎ ((n ≡ name) × (moves_by op ≡ true))
known_began name (Draft b) todo names on known n i = known n i
known_began name SyncDraft todo names on known n i = known n i
known_began name (Publish m) todo names on known n (inl is) = inr (is ∙ on, refl)
known_began name (Publish m) todo names on known n (inr i) = ⊎_elim (λ (is : _). inl is) (λ (is : (n ≡ name) × (false ≡ true)). absurd (cc is.1)) (known n (in_filter (λ k. not (bytes_eq m k)) n names i).0)
known_began name (Write m at b) todo names on known n i = known n i
known_began name (Sync m) todo names on known n i = known n i
known_began name (Remove m) todo names on known n i = known n i

room_began : (op : DiskOp) (todo : List Todo) (names : List Bytes) → Follows op todo → ((is_publishing op || publishes todo) ≡ true → length names < 10000) → publishes todo ≡ true → length (names_after names (Began op)) < 10000
room_began (Draft b) todo names follows room is = room is
room_began SyncDraft todo names follows room is = room is
room_began (Publish m) todo names follows room is = let both : false ≡ true = sym follows.1 ∙ is in absurd (cc both)
room_began (Write m at b) todo names follows room is = room is
room_began (Sync m) todo names follows room is = room is
room_began (Remove m) todo names follows room is = room is

now_began : (name : Bytes) (op : DiskOp) (names : List Bytes) → IsOn name op → (is_of_file op ≡ true → IsIn name names) → (is_of_file op || is_publishing op) ≡ true → IsIn name (names_after names (Began op))
now_began name (Draft b) names on stands is = absurd (cc is)
now_began name SyncDraft names on stands is = absurd (cc is)
now_began name (Publish m) names on stands is = inl (sym on)
now_began name (Write m at b) names on stands is = stands refl
now_began name (Sync m) names on stands is = stands refl
now_began name (Remove m) names on stands is = stands refl

keeps_done : (op : DiskOp) (name : Bytes) (names : List Bytes) (n : Bytes) → IsOn name op → (n ≡ name → ⊥) → IsIn n names → IsIn n (names_after names (Did op true))
keeps_done (Draft b) name names n on differ i = i
keeps_done SyncDraft name names n on differ i = i
keeps_done (Publish m) name names n on differ i = i
keeps_done (Write m at b) name names n on differ i = i
keeps_done (Sync m) name names n on differ i = i
keeps_done (Remove m) name names n on differ i = into_without m n names i (λ is. differ (sym is ∙ on))

apart_done : (op : DiskOp) (names : List Bytes) → AreApart names → AreApart (names_after names (Did op true))
apart_done (Draft b) names a = a
apart_done SyncDraft names a = a
apart_done (Publish m) names a = a
apart_done (Write m at b) names a = a
apart_done (Sync m) names a = a
apart_done (Remove m) names a = apart_filter (λ k. not (bytes_eq m k)) names a

few_done : (op : DiskOp) (names : List Bytes) → length (names_after names (Did op true)) ≤ length names
few_done (Draft b) names = omega arith
few_done SyncDraft names = omega arith
few_done (Publish m) names = omega arith
few_done (Write m at b) names = omega arith
few_done (Sync m) names = omega arith
few_done (Remove m) names = fewer m names

pub names_failed : (disk : Log) (op : DiskOp) → entry_names (disk ++ Did op false ∷ []) ≡ entry_names disk
names_failed disk op = names_more disk (Did op false) ∙ same op
  where
    same : (op : DiskOp) → names_after (entry_names disk) (Did op false) ≡ entry_names disk
    same (Draft b) = refl
    same SyncDraft = refl
    same (Publish m) = refl
    same (Write m at b) = refl
    same (Sync m) = refl
    same (Remove m) = refl

none_left : (file : Bytes) → LeavesOne (None ∷ []) (Some file) → ⊥
none_left file (inl bad) = bad
none_left file (inr bad) = bad

removed_slot : (name m : Bytes) (v : View) → m ≡ name → (done name (Remove m) v).slot ≡ None ∷ []
removed_slot name m v on = ap (λ (t : Bool). where_on t (None ∷ []) v.slot) (ap (λ (k : Bytes). bytes_eq k name) on ∙ name_same name)

covered_done : (name : Bytes) (op : DiskOp) (names : List Bytes) (v : View) → IsOn name op → ((is_of_file op || is_publishing op) ≡ true → IsIn name names) → ((file : Bytes) → LeavesOne v.slot (Some file) → IsEntryAt name file → IsIn name names)
    → (file : Bytes) → LeavesOne (done name op v).slot (Some file) → IsEntryAt name file → IsIn name (names_after names (Did op true))
covered_done name (Draft b) names v on now covers file left e = covers file left e
covered_done name SyncDraft names v on now covers file left e = covers file left e
covered_done name (Publish m) names v on now covers file left e = now refl
covered_done name (Write m at b) names v on now covers file left e = now refl
covered_done name (Sync m) names v on now covers file left e = now refl
covered_done name (Remove m) names v on now covers file left e = absurd (none_left file (subst (λ slot. LeavesOne slot (Some file)) (removed_slot name m v on) left))

known_done : {A : Bytes → Type 0} (name : Bytes) (op : DiskOp) (todo : List Todo) (names : List Bytes) → IsOn name op → Follows op todo → ((n : Bytes) → IsIn n names → A n ⊎ ((n ≡ name) × (moves_by op ≡ true)))
    → (n : Bytes) → IsIn n (names_after names (Did op true)) → A n ⊎ ((n ≡ name) × (moves_next todo ≡ true))
known_done name (Draft b) todo names on follows known n i = ⊎_elim (λ (is : _). inl is) (λ (is : (n ≡ name) × (false ≡ true)). absurd (cc is.1)) (known n i)
known_done name SyncDraft todo names on follows known n i = ⊎_elim (λ (is : _). inl is) (λ (is : (n ≡ name) × (false ≡ true)). absurd (cc is.1)) (known n i)
known_done name (Publish m) todo names on follows known n i = ⊎_elim (λ (is : _). inl is) (λ (is : (n ≡ name) × (true ≡ true)). inr (is.0, follows.0)) (known n i)
known_done name (Write m at b) todo names on follows known n i = ⊎_elim (λ (is : _). inl is) (λ (is : (n ≡ name) × (false ≡ true)). absurd (cc is.1)) (known n i)
known_done name (Sync m) todo names on follows known n i = ⊎_elim (λ (is : _). inl is) (λ (is : (n ≡ name) × (false ≡ true)). absurd (cc is.1)) (known n i)
known_done name (Remove m) todo names on follows known n i = ⊎_elim (λ (is : _). inl is)
    (λ (is : (n ≡ name) × (true ≡ true)). absurd (out_of m names (subst (λ k. IsIn k (without (bytes_eq m) names)) (is.0 ∙ sym on) i)))
    (known n (in_filter (λ k. not (bytes_eq m k)) n names i).0)

stands_done : (name : Bytes) (op : DiskOp) (todo : List Todo) (names : List Bytes) → Follows op todo → touches todo ≡ true → IsIn name names → IsIn name (names_after names (Did op true))
stands_done name (Draft b) todo names follows is i = i
stands_done name SyncDraft todo names follows is i = i
stands_done name (Publish m) todo names follows is i = i
stands_done name (Write m at b) todo names follows is i = i
stands_done name (Sync m) todo names follows is i = i
stands_done name (Remove m) todo names follows is i = let both : false ≡ true = sym (ap touches follows) ∙ is in absurd (cc both)

module _ {others : List Bytes} {disk : Log} {closed : List Bytes} {entries : List Entry} where
  pub counts_planned : {agenda : Agenda} → moves agenda.todo None ≡ false → CountsOf others disk agenda None closed entries → (a : Agenda) → CountsOn others (entry_names disk) a.name a.todo (view_of a.name disk) → CountsOf others disk a None closed entries
  counts_planned still h a on = record { all = h.all; known = λ n i. inl (named_now still h n i); going = λ isnt. on }

  pub counts_began : (agenda : Agenda) (op : DiskOp) (todo : List Todo) → agenda.todo ≡ Do op ∷ todo → has_text agenda.name closed ≡ false → IsOn agenda.name op → CountsOf others disk agenda None closed entries
      → CountsOf others (disk ++ Began op ∷ []) (record agenda { todo = todo }) (Some op) closed entries
  counts_began agenda op todo first isnt on h = record {
    all = record {
      clean = λ n out. subst (AllLeft (CleanAt n)) (sym (at n)) (same_or n agenda.name
          (λ eq. subst (λ m. AllLeft (CleanAt m) (began m op (view_of m disk))) (sym eq) (k.during (λ i. out (subst (λ m. IsIn m others) (sym eq) i))).1)
          (λ differ. left_same (CleanAt n) (view_of n disk) (began n op (view_of n disk)) (other n differ) (h.all.clean n out)));
      covers = λ n file left e. subst (IsIn n) (sym names) (same_or n agenda.name
          (λ eq. covered n eq file (subst (λ (v : View). LeavesOne v.slot (Some file)) (at n) left) e)
          (λ differ. grows op (entry_names disk) n (h.all.covers n file (subst (λ slot. LeavesOne slot (Some file)) (ap (λ (v : View). v.slot) (at n) ∙ other n differ) left) e)));
      apart = subst AreApart (sym names) (apart_began op (entry_names disk) h.all.apart);
      few = subst (λ (ns : List Bytes). length ns ≤ 10000) (sym names) (few_began op (entry_names disk) h.all.few (λ is. k.room (true_or (is_publishing op) (publishes todo) is)));
    };
    known = λ n i. known_began agenda.name op todo (entry_names disk) on (λ m j. subst (λ t. IsKnown closed entries m ⊎ ((m ≡ agenda.name) × (moves_next t ≡ true))) first (h.known m j)) n (subst (IsIn n) names i);
    going = λ unclosed. subst (λ v. CountsMid others (entry_names (disk ++ Began op ∷ [])) agenda.name todo op v) (sym (at agenda.name)) (subst (λ (ns : List Bytes). CountsMid others ns agenda.name todo op (began agenda.name op (view_of agenda.name disk))) (sym names) (record {
      now = now_began agenda.name op (entry_names disk) on (λ is. k.stands (true_or (is_of_file op) (touches todo) is));
      follows = k.shaped.0;
      then = record {
        during = λ out. (k.during out).3;
        room = λ is. room_began op todo (entry_names disk) k.shaped.0 k.room is;
        stands = λ is. grows op (entry_names disk) agenda.name (k.stands (or_true (is_of_file op) (touches todo) is));
        shaped = k.shaped.1;
      };
    }));
  }
    where
      at : (name : Bytes) → view_of name (disk ++ Began op ∷ []) ≡ began name op (view_of name disk)
      at name = view_more name disk (Began op)

      names : entry_names (disk ++ Began op ∷ []) ≡ names_after (entry_names disk) (Began op)
      names = names_more disk (Began op)

      other : (n : Bytes) → (n ≡ agenda.name → ⊥) → (began n op (view_of n disk)).slot ≡ (view_of n disk).slot
      other n differ = other_began agenda.name n op (view_of n disk) on (λ eq. differ (sym eq))

      k : CountsOn others (entry_names disk) agenda.name (Do op ∷ todo) (view_of agenda.name disk)
      k = subst (λ t. CountsOn others (entry_names disk) agenda.name t (view_of agenda.name disk)) first (h.going isnt)

      covered : (n : Bytes) → n ≡ agenda.name → (file : Bytes) → LeavesOne (began n op (view_of n disk)).slot (Some file) → IsEntryAt n file → IsIn n (names_after (entry_names disk) (Began op))
      covered n eq = subst (λ m. (file : Bytes) → LeavesOne (began m op (view_of m disk)).slot (Some file) → IsEntryAt m file → IsIn m (names_after (entry_names disk) (Began op))) (sym eq)
          (covered_began agenda.name op (entry_names disk) (view_of agenda.name disk) on (λ is. k.stands (true_or (is_of_file op) (touches todo) is)) (λ file left e. h.all.covers agenda.name file left e))

  pub counts_done : (agenda : Agenda) (op : DiskOp) → has_text agenda.name closed ≡ false → IsOn agenda.name op → CountsOf others disk agenda (Some op) closed entries → CountsOf others (disk ++ Did op true ∷ []) agenda None closed entries
  counts_done agenda op isnt on h = record {
    all = record {
      clean = λ n out. subst (AllLeft (CleanAt n)) (sym (at n)) (same_or n agenda.name
          (λ eq. subst (λ m. AllLeft (CleanAt m) (done m op (view_of m disk))) (sym eq) (during_now agenda.name (done agenda.name op (view_of agenda.name disk)) (ops_of agenda.todo) (AllLeft (CleanAt agenda.name)) (k.then.during (λ i. out (subst (λ m. IsIn m others) (sym eq) i)))))
          (λ differ. left_same (CleanAt n) (view_of n disk) (done n op (view_of n disk)) (other n differ) (h.all.clean n out)));
      covers = λ n file left e. subst (IsIn n) (sym names) (same_or n agenda.name
          (λ eq. covered n eq file (subst (λ (v : View). LeavesOne v.slot (Some file)) (at n) left) e)
          (λ differ. keeps_done op agenda.name (entry_names disk) n on differ (h.all.covers n file (subst (λ slot. LeavesOne slot (Some file)) (ap (λ (v : View). v.slot) (at n) ∙ other n differ) left) e)));
      apart = subst AreApart (sym names) (apart_done op (entry_names disk) h.all.apart);
      few = subst (λ (ns : List Bytes). length ns ≤ 10000) (sym names) (omega (arith, few_done op (entry_names disk), h.all.few));
    };
    known = λ n i. known_done agenda.name op agenda.todo (entry_names disk) on k.follows h.known n (subst (IsIn n) names i);
    going = λ unclosed. subst (CountsOn others (entry_names (disk ++ Did op true ∷ [])) agenda.name agenda.todo) (sym (at agenda.name)) (subst (λ (ns : List Bytes). CountsOn others ns agenda.name agenda.todo (done agenda.name op (view_of agenda.name disk))) (sym names) (record {
      during = k.then.during;
      room = λ is. let less = k.then.room is in omega (arith, few_done op (entry_names disk), less);
      stands = λ is. stands_done agenda.name op agenda.todo (entry_names disk) k.follows is (k.then.stands is);
      shaped = k.then.shaped;
    }));
  }
    where
      at : (name : Bytes) → view_of name (disk ++ Did op true ∷ []) ≡ done name op (view_of name disk)
      at name = view_more name disk (Did op true)

      names : entry_names (disk ++ Did op true ∷ []) ≡ names_after (entry_names disk) (Did op true)
      names = names_more disk (Did op true)

      other : (n : Bytes) → (n ≡ agenda.name → ⊥) → (done n op (view_of n disk)).slot ≡ (view_of n disk).slot
      other n differ = other_done agenda.name n op (view_of n disk) on (λ eq. differ (sym eq))

      k : CountsMid others (entry_names disk) agenda.name agenda.todo op (view_of agenda.name disk)
      k = h.going isnt

      covered : (n : Bytes) → n ≡ agenda.name → (file : Bytes) → LeavesOne (done n op (view_of n disk)).slot (Some file) → IsEntryAt n file → IsIn n (names_after (entry_names disk) (Did op true))
      covered n eq = subst (λ m. (file : Bytes) → LeavesOne (done m op (view_of m disk)).slot (Some file) → IsEntryAt m file → IsIn m (names_after (entry_names disk) (Did op true))) (sym eq)
          (covered_done agenda.name op (entry_names disk) (view_of agenda.name disk) on k.now (λ file left e. h.all.covers agenda.name file left e))

  -- a published file is an entry
  pub counts_entered : (agenda : Agenda) (e : Entry) (todo : List Todo) → agenda.todo ≡ Enter e ∷ todo → has_text agenda.name closed ≡ false → CountsOf others disk agenda None closed entries → CountsOf others disk (record agenda { todo = todo }) None closed (entries ++ e ∷ [])
  counts_entered agenda e todo first isnt h = record {
    all = h.all;
    known = λ n i. inl (⊎_elim (λ (is : IsKnown closed entries n). pushed n is) (λ (is : (n ≡ agenda.name) × (moves_next agenda.todo ≡ true)). inr (subst (HasEntry (entries ++ e ∷ [])) (k.shaped.0 ∙ sym is.0) (last_entry e entries))) (h.known n i));
    going = λ unclosed. record { during = k.during; room = k.room; stands = k.stands; shaped = k.shaped.1 };
  }
    where
      k : CountsOn others (entry_names disk) agenda.name (Enter e ∷ todo) (view_of agenda.name disk)
      k = subst (λ t. CountsOn others (entry_names disk) agenda.name t (view_of agenda.name disk)) first (h.going isnt)

      pushed : (n : Bytes) → IsKnown closed entries n → IsKnown closed (entries ++ e ∷ []) n
      pushed n (inl shut) = inl shut
      pushed n (inr has) = inr (pushed_entry e entries n has)

  -- what was sealed is noted
  pub counts_noted : (agenda : Agenda) (key tag : Bytes) (m extent : ℕ) (todo : List Todo) → agenda.todo ≡ Acknowledge key tag m extent ∷ todo → has_text agenda.name closed ≡ false → CountsOf others disk agenda None closed entries
      → CountsOf others disk (record agenda { todo = todo }) None closed entries
  counts_noted agenda key tag m extent todo first isnt h = record {
    all = h.all;
    known = λ n i. inl (named_now (ap moves_next first) h n i);
    going = λ unclosed. let k = subst (λ t. CountsOn others (entry_names disk) agenda.name t (view_of agenda.name disk)) first (h.going isnt) in record { during = k.during; room = k.room; stands = k.stands; shaped = k.shaped };
  }

-- an operation failed
pub counts_failed : {others : List Bytes} (disk : Log) (op : DiskOp) → AllCounted others disk → AllCounted others (disk ++ Did op false ∷ [])
counts_failed disk op h = record {
  clean = λ n out. subst (AllLeft (CleanAt n)) (sym (view_more n disk (Did op false))) (left_same (CleanAt n) (view_of n disk) (undone n op (view_of n disk)) (undone_slot n op (view_of n disk)) (h.clean n out));
  covers = λ n file left e. subst (IsIn n) (sym names) (h.covers n file (subst (λ slot. LeavesOne slot (Some file)) (ap (λ (v : View). v.slot) (view_more n disk (Did op false)) ∙ undone_slot n op (view_of n disk)) left) e);
  apart = subst AreApart (sym names) h.apart;
  few = subst (λ (ns : List Bytes). length ns ≤ 10000) (sym names) h.few;
}
  where
    names : entry_names (disk ++ Did op false ∷ []) ≡ entry_names disk
    names = names_failed disk op

-- entries of the same names
pub counts_map : {others : List Bytes} {disk : Log} {agenda : Agenda} {under_way : Option DiskOp} {closed : List Bytes} (old entries : List Entry) → ((n : Bytes) → HasEntry old n → HasEntry entries n)
    → CountsOf others disk agenda under_way closed old → CountsOf others disk agenda under_way closed entries
counts_map {others} {disk} {agenda} {under_way} {closed} old entries step h = record {
  all = h.all;
  known = λ n i. ⊎_elim (λ (is : IsKnown closed old n). inl (still n is)) (λ (is : (n ≡ agenda.name) × (moves agenda.todo under_way ≡ true)). inr is) (h.known n i);
  going = h.going;
}
  where
    still : (n : Bytes) → IsKnown closed old n → IsKnown closed entries n
    still n (inl shut) = inl shut
    still n (inr has) = inr (step n has)
