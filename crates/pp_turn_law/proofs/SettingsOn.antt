-- The settings of a life stay over its turns, and so the cache may have as many chunks as they say.
use Rattle.std.proofs.Common.{◌≡◌, refl, sym, ap, ◌∙◌, subst, ℕ, zero, suc, Bool, true, false, not, find, List, [], ◌∷◌, ◌++◌, inl, inr, ◌⊎◌, Option, Some, None}
use Rattle.pp_law.specs.After.{after, begun_op, changed, ended_op, noted, unread}
use Rattle.pp_law.specs.Lawful.{LawfulFrom}
use Rattle.pp_law.specs.Lists.{Bytes}
use Rattle.pp_law.specs.Opening.{is_opening, lose_in_opening}
use Rattle.pp_law.specs.Permits.{IsPermitted}
use Rattle.pp_law.specs.Phases.{behind, come, come_to, may_end, next}
use Rattle.pp_law.specs.Repairs.{agenda_in_opening, begin_in_opening}
use Rattle.pp_law.specs.State.{State, Term, Agenda, Entry, Todo, Do, Acknowledge, Enter, Phase, Before, IsWoken, IsConfigured, IsRooted, IsListed, IsListening, IsStuck, Awaiting, Handling, Evicting, Keeping, Deciding, Following, Connecting, DecidingAgain}
use Rattle.pp_law.specs.Store.{agenda_in_turn, begin_in_turn, begin_op, close_name, end_op, enter_next, fail_op, is_of_draft, left_todo, lose_draft, lose_entry, note_gone, note_kept, remove_entry}
use Rattle.pp_law.specs.Table.{is_entry_of}
use Rattle.pp_laws.proofs.Tests.{first_holds, second_holds}
use Rattle.pp_laws.specs.Runs.{after_all, state_after}
use Rattle.pp_laws_crash.proofs.Begins.{not_true}
use Rattle.pp_laws_crash.proofs.Frames.{Kept, OwedIn, kept_self, parts_of, takes_turns as turns_at}
use Rattle.pp_laws_crash.proofs.Happenings.{changed_on}
use Rattle.pp_laws_crash.proofs.KeptTurns.{come_to-kept, next-kept, paid-kept}
use Rattle.pp_laws_crash.specs.Changes.{changes_disk}
use Rattle.pp_laws_pool.proofs.Along.{after_all-append, back_from}
use Rattle.pp_laws_quiet.specs.Quiet.{takes_turns}
use Rattle.pp_obeys.specs.Obeys.{Obeys, phases_on}
use Rattle.pp_world.specs.Log.{Log}
use Rattle.pp_world.specs.declared.op.DiskOp.{DiskOp}
use Rattle.pp_world.specs.declared.happening.Happening.{Happening}
use Rattle.pp_world.specs.declared.happening.Happening.TheVariants.{Woke, Waits, Clock, Opened, CanRead, CanWrite, Heard, HungUp, Said, Shut, Dialled, Undialled, Reached, Ended, Broke, Asked, Got, Dropped, NoneYet, Began, Did, Unread, Noted, Rooted, Listed, Listens, Configured, Printed, Stopped}
use Rattle.pp_world.specs.declared.note.Remark.TheVariants.{Taken, Cut, Kept as WasKept, Gone, Forgotten, Evicted, Loaded}
use Rattle.pp_turn_law.proofs.SizesOn.{turns_size}
use Rattle.pp_turn_law.specs.Sized.{AreOfTurns, SettingsStay, SizeStaysSet, is_of_opening}

-- ---- a state of a turn

abbrev IsTurning : State → Type 0
IsTurning s = turns_at s.phase ≡ true

nothing_owed : (s : State) → IsTurning s → OwedIn s.phase s.owed
nothing_owed s turns isnt = absurd (let both : true ≡ false = sym turns ∙ isnt in cc)

self : (s : State) → IsTurning s → Kept s s
self s turns = kept_self s (nothing_owed s turns)

-- and so it stands then
goes_on : (s t : State) → IsTurning s → Kept s t → IsTurning t
goes_on s t turns k = by (parts_of k).moved
  where
    by : (t.phase ≡ s.phase) ⊎ (turns_at t.phase ≡ true) → IsTurning t
    by (inl same) = ap turns_at same ∙ turns
    by (inr is) = is

-- with the settings of another
record IsSet (o t : State) : Type 0 where
  settings : t.settings ≡ o.settings
  turns : IsTurning t

by_kept : (o s t : State) → Kept s t → IsSet o s → IsSet o t
by_kept o s t k set = record { settings = (parts_of k).settings_is ∙ set.settings; turns = goes_on s t set.turns k }

-- neither changes
alike : (o s t : State) → t.settings ≡ s.settings → t.phase ≡ s.phase → IsSet o s → IsSet o t
alike o s t settings phase set = record { settings = settings ∙ set.settings; turns = ap turns_at phase ∙ set.turns }

-- ---- words of the disk

begins : (o : State) (op : DiskOp) (a : Option Agenda) (s : State) → IsSet o s → IsSet o (begin_op op a s)
unfolding begin_op
begins o op None s set = set
begins o op (Some a) s set = alike o s (begin_op op (Some a) s) refl refl set

opening_begins : (o : State) (op : DiskOp) (s : State) → IsSet o s → IsSet o (begin_in_opening op s)
unfolding begin_in_opening
opening_begins o op s set = begins o op (agenda_in_opening op s) s set

turn_begins : (o : State) (op : DiskOp) (s : State) → IsSet o s → IsSet o (begin_in_turn op s)
unfolding begin_in_turn
turn_begins o op s set = begins o op (agenda_in_turn op s) s set

begun_set : (o : State) (op : DiskOp) (s : State) → IsSet o s → IsSet o (begun_op op s)
unfolding begun_op
begun_set o op s set = by (is_opening s)
  where
    by : (b : Bool) → IsSet o (elim b as (λ c. State) [ true ↦ begin_in_opening op s | false ↦ begin_in_turn op (come_to Keeping s) ])
    by true = opening_begins o op s set
    by false = turn_begins o op (come_to Keeping s) (by_kept o s (come_to Keeping s) (come_to-kept Keeping s (self s set.turns)) set)

lost_set : (o : State) (name : Bytes) (s : State) → IsSet o s → IsSet o (lose_in_opening name s)
unfolding lose_in_opening lose_entry
lost_set o name s set = by (is_opening s)
  where
    by : (b : Bool) → IsSet o (elim b as (λ c. State) [ true ↦ lose_entry name s | false ↦ s ])
    by true = alike o s (lose_entry name s) refl refl set
    by false = set

closed_set : (o : State) (name : Bytes) (s : State) → IsSet o s → IsSet o (close_name name s)
unfolding close_name
closed_set o name s set = alike o s _ refl refl set

failed_set : (o : State) (op : DiskOp) (s : State) → IsSet o s → IsSet o (fail_op op s)
unfolding lose_draft fail_op
failed_set o op s set = by (is_of_draft op)
  where
    by : (b : Bool) → IsSet o (elim b as (λ c. State) [ true ↦ lose_draft s | false ↦ close_name s.agenda.name s ])
    by true = alike o s (lose_draft s) refl refl set
    by false = closed_set o s.agenda.name s set

entered_set : (o s : State) → IsSet o s → IsSet o (enter_next s)
unfolding enter_next
entered_set o s set = by s.agenda.todo
  where
    one : (first : Todo) (rest : List Todo) → IsSet o (elim first as (λ c. State) [
      | Do op ↦ s
      | Acknowledge key tag n extent ↦ s
      | Enter e ↦ left_todo rest (record s { entries = s.entries ++ e ∷ [] })
    ])
    one (Do op) rest = set
    one (Acknowledge key tag n extent) rest = set
    one (Enter e) rest = alike o s _ refl refl set

    by : (ts : List Todo) → IsSet o (elim ts as (λ c. State) [
      | [] ↦ s
      | first ∷ rest ↦ elim first as (λ c. State) [
        | Do op ↦ s
        | Acknowledge key tag n extent ↦ s
        | Enter e ↦ left_todo rest (record s { entries = s.entries ++ e ∷ [] })
      ]
    ])
    by [] = set
    by (first ∷ rest) = one first rest

end_set : (o : State) (op : DiskOp) (ok : Bool) (s : State) → IsSet o s → IsSet o (end_op op ok s)
unfolding end_op
end_set o op true s set = entered_set o _ (alike o s _ refl refl set)
end_set o op false s set = failed_set o op _ (alike o s _ refl refl set)

ended_set : (o : State) (op : DiskOp) (ok : Bool) (s : State) → IsSet o s → IsSet o (ended_op op ok s)
unfolding ended_op
ended_set o op true s set = end_set o op true s set
ended_set o op false s set = lost_set o s.agenda.name (end_op op false s) (end_set o op false s set)

unread_set : (o : State) (name : Bytes) (s : State) → IsSet o s → IsSet o (unread name s)
unfolding unread
unread_set o name s set =
    let t : State = lose_in_opening name (close_name name s) in
    let then : IsSet o t = lost_set o name (close_name name s) (closed_set o name s set) in
    by_kept o t _ (paid-kept t (self t then.turns)) then

kept_set : (o : State) (key : Bytes) (extent : ℕ) (s : State) → IsSet o s → IsSet o (note_kept key extent s)
unfolding note_kept
kept_set o key extent s set = alike o s _ refl refl set

removed_set : (o : State) (e : Entry) (s : State) → IsSet o s → IsSet o (remove_entry e s)
unfolding remove_entry
removed_set o e s set = alike o s _ refl refl set

gone_set : (o : State) (key : Bytes) (s : State) → IsSet o s → IsSet o (note_gone key s)
unfolding note_gone
gone_set o key s set = by (find (is_entry_of key) s.entries)
  where
    by : (u : Option Entry) → IsSet o (elim u as (λ c. State) [ None ↦ s | Some e ↦ remove_entry e s ])
    by None = set
    by (Some e) = removed_set o e s set

module _ (s : State) where
  disk_set : (h : Happening) → changes_disk h ≡ true → is_of_opening h ≡ false → (o : State) → IsSet o s → IsSet o (changed s h)
  unfolding changed noted
  disk_set (Began op) disk opens o set = begun_set o op s set
  disk_set (Did op ok) disk opens o set = ended_set o op ok s set
  disk_set (Unread name) disk opens o set = unread_set o name s set
  disk_set (Noted (WasKept key tag n extent)) disk opens o set = kept_set o key extent s set
  disk_set (Noted (Gone key)) disk opens o set = gone_set o key (come_to Keeping s) (by_kept o s (come_to Keeping s) (come_to-kept Keeping s (self s set.turns)) set)
  disk_set (Woke image) disk opens o set = absurd (cc opens)
  disk_set (Rooted folder) disk opens o set = absurd (cc opens)
  disk_set (Listed ok) disk opens o set = absurd (cc opens)
  disk_set (Listens port ok) disk opens o set = absurd (cc opens)
  disk_set (Configured file text) disk opens o set = absurd (cc opens)
  disk_set (Waits w) disk opens o set = absurd (cc disk)
  disk_set (Clock seconds) disk opens o set = absurd (cc disk)
  disk_set (Opened n) disk opens o set = absurd (cc disk)
  disk_set (CanRead n) disk opens o set = absurd (cc disk)
  disk_set (CanWrite n) disk opens o set = absurd (cc disk)
  disk_set (Heard c bytes) disk opens o set = absurd (cc disk)
  disk_set (HungUp c) disk opens o set = absurd (cc disk)
  disk_set (Said c offered bytes) disk opens o set = absurd (cc disk)
  disk_set (Shut c) disk opens o set = absurd (cc disk)
  disk_set (Dialled n host port) disk opens o set = absurd (cc disk)
  disk_set (Undialled host port) disk opens o set = absurd (cc disk)
  disk_set (Reached k) disk opens o set = absurd (cc disk)
  disk_set (Ended k) disk opens o set = absurd (cc disk)
  disk_set (Broke k) disk opens o set = absurd (cc disk)
  disk_set (Asked k bytes) disk opens o set = absurd (cc disk)
  disk_set (Got k bytes) disk opens o set = absurd (cc disk)
  disk_set (Dropped k) disk opens o set = absurd (cc disk)
  disk_set (NoneYet n) disk opens o set = absurd (cc disk)
  disk_set (Noted (Taken c i d)) disk opens o set = absurd (cc disk)
  disk_set (Noted (Cut c cause)) disk opens o set = absurd (cc disk)
  disk_set (Noted (Forgotten key)) disk opens o set = absurd (cc disk)
  disk_set (Noted (Evicted key tag n i)) disk opens o set = absurd (cc disk)
  disk_set (Noted (Loaded key tag n i)) disk opens o set = absurd (cc disk)
  disk_set (Printed text) disk opens o set = absurd (cc disk)
  disk_set Stopped disk opens o set = absurd (cc disk)

-- ---- one happening behind the other

one_set : (o s : State) (h : Happening) → is_of_opening h ≡ false → IsPermitted s h → IsSet o s → IsSet o (after s h)
one_set o s h opens may set = by (changes_disk h) refl
  where
    by : (b : Bool) → changes_disk h ≡ b → IsSet o (after s h)
    by true disk = disk_set s h disk opens o set
    by false still = by_kept o s (after s h) (changed_on s (nothing_owed s set.turns) (self s set.turns) h still may) set

all_set : (o : State) (hs : Log) (s : State) → AreOfTurns hs → LawfulFrom s hs → IsSet o s → IsSet o (after_all s hs)
all_set o [] s are lawful set = set
all_set o (h ∷ hs) s are lawful set =
    all_set o hs (after s h) (second_holds (not (is_of_opening h)) _ are) lawful.1 (one_set o s h (not_true (is_of_opening h) (first_holds (not (is_of_opening h)) _ are)) lawful.0 set)

on_set : (o : State) (n : ℕ) (s : State) → IsSet o s → IsSet o (phases_on n s)
on_set o zero s set = set
on_set o (suc n) s set = on_set o n (next s) (by_kept o s (next s) (next-kept s (self s set.turns)) set)

-- ---- where the log is

-- no phase is left but in a turn
stays_out : (s : State) (p : Phase) → s.phase ≡ p → turns_at p ≡ false → next s ≡ s
unfolding next
stays_out s Before is out = ap (λ (p : Phase). behind p s) is
stays_out s IsWoken is out = ap (λ (p : Phase). behind p s) is
stays_out s IsConfigured is out = ap (λ (p : Phase). behind p s) is
stays_out s IsRooted is out = ap (λ (p : Phase). behind p s) is
stays_out s IsListed is out = ap (λ (p : Phase). behind p s) is
stays_out s IsListening is out = ap (λ (p : Phase). behind p s) is
stays_out s IsStuck is out = ap (λ (p : Phase). behind p s) is
stays_out s Awaiting is out = absurd (cc out)
stays_out s Handling is out = absurd (cc out)
stays_out s Evicting is out = absurd (cc out)
stays_out s Keeping is out = absurd (cc out)
stays_out s Deciding is out = absurd (cc out)
stays_out s Following is out = absurd (cc out)
stays_out s Connecting is out = absurd (cc out)
stays_out s DecidingAgain is out = absurd (cc out)

on_out : (n : ℕ) (s : State) → turns_at s.phase ≡ false → phases_on n s ≡ s
on_out zero s out = refl
on_out (suc n) s out = ap (λ (t : State). phases_on n t) (stays_out s s.phase refl out) ∙ on_out n s out

was_turning : (n : ℕ) (r s : State) → phases_on n r ≡ s → IsTurning s → IsTurning r
was_turning n r s there turns = by (turns_at r.phase) refl
  where
    by : (b : Bool) → turns_at r.phase ≡ b → IsTurning r
    by true is = is
    by false out = absurd (let both : true ≡ false = sym turns ∙ ap (λ (t : State). turns_at t.phase) (sym there ∙ on_out n r out) ∙ out in cc)

-- in the words of the law
turning : (s : State) (p : Phase) → s.phase ≡ p → takes_turns s ≡ true → turns_at p ≡ true
turning s Before is turns = absurd (let both : false ≡ true = sym (ap (λ (p : Phase). takes_turns (record s { phase = p })) is) ∙ turns in cc)
turning s IsWoken is turns = absurd (let both : false ≡ true = sym (ap (λ (p : Phase). takes_turns (record s { phase = p })) is) ∙ turns in cc)
turning s IsConfigured is turns = absurd (let both : false ≡ true = sym (ap (λ (p : Phase). takes_turns (record s { phase = p })) is) ∙ turns in cc)
turning s IsRooted is turns = absurd (let both : false ≡ true = sym (ap (λ (p : Phase). takes_turns (record s { phase = p })) is) ∙ turns in cc)
turning s IsListed is turns = absurd (let both : false ≡ true = sym (ap (λ (p : Phase). takes_turns (record s { phase = p })) is) ∙ turns in cc)
turning s IsListening is turns = absurd (let both : false ≡ true = sym (ap (λ (p : Phase). takes_turns (record s { phase = p })) is) ∙ turns in cc)
turning s IsStuck is turns = absurd (let both : false ≡ true = sym (ap (λ (p : Phase). takes_turns (record s { phase = p })) is) ∙ turns in cc)
turning s Awaiting is turns = refl
turning s Handling is turns = refl
turning s Evicting is turns = refl
turning s Keeping is turns = refl
turning s Deciding is turns = refl
turning s Following is turns = refl
turning s Connecting is turns = refl
turning s DecidingAgain is turns = refl

-- a turn that may end is one
ends_turning : (s : State) (p : Phase) → s.phase ≡ p → may_end s ≡ true → turns_at p ≡ true
unfolding come_to come
ends_turning s Before is may = absurd (let both : false ≡ true = sym (ap (λ (p : Phase). may_end (record s { phase = p })) is) ∙ may in cc both)
ends_turning s IsWoken is may = absurd (let both : false ≡ true = sym (ap (λ (p : Phase). may_end (record s { phase = p })) is) ∙ may in cc both)
ends_turning s IsConfigured is may = absurd (let both : false ≡ true = sym (ap (λ (p : Phase). may_end (record s { phase = p })) is) ∙ may in cc both)
ends_turning s IsRooted is may = absurd (let both : false ≡ true = sym (ap (λ (p : Phase). may_end (record s { phase = p })) is) ∙ may in cc both)
ends_turning s IsListed is may = absurd (let both : false ≡ true = sym (ap (λ (p : Phase). may_end (record s { phase = p })) is) ∙ may in cc both)
ends_turning s IsListening is may = absurd (let both : false ≡ true = sym (ap (λ (p : Phase). may_end (record s { phase = p })) is) ∙ may in cc both)
ends_turning s IsStuck is may = absurd (let both : false ≡ true = sym (ap (λ (p : Phase). may_end (record s { phase = p })) is) ∙ may in cc both)
ends_turning s Awaiting is may = refl
ends_turning s Handling is may = refl
ends_turning s Evicting is may = refl
ends_turning s Keeping is may = refl
ends_turning s Deciding is may = refl
ends_turning s Following is may = refl
ends_turning s Connecting is may = refl
ends_turning s DecidingAgain is may = refl

-- ---- all of it

settings_on : (terms : List Term) (before hs : Log) (s t : State) → Obeys terms s before → Obeys terms t (before ++ hs) → IsTurning s → AreOfTurns hs → t.settings ≡ s.settings
settings_on terms before hs s t one two turns are =
    let r : State = state_after terms before in
    let was : IsTurning r = was_turning one.goes.phases r s one.goes.there turns in
    let here : IsSet r r = record { settings = refl; turns = was } in
    let first : IsSet r s = subst (λ (u : State). IsSet r u) one.goes.there (on_set r one.goes.phases r here) in
    let behind : IsSet r (state_after terms (before ++ hs)) = subst (λ (u : State). IsSet r u) (sym (after_all-append _ before hs)) (all_set r hs r are (back_from _ before hs two.lawful) here) in
    let then : IsSet r t = subst (λ (u : State). IsSet r u) two.goes.there (on_set r two.goes.phases (state_after terms (before ++ hs)) behind) in
    then.settings ∙ sym first.settings

pub settings_stay : SettingsStay
settings_stay terms before hs s t one two turns are = settings_on terms before hs s t one two (turning s s.phase refl turns) are

pub size_set : SizeStaysSet
size_set result x y terms before hs s t it st numbered one two may are size =
    (turns_size result x y it st numbered).size ∙ size ∙ ap (λ c. c.critical) (sym (settings_on terms before hs s t one two (ends_turning s s.phase refl may) are))
