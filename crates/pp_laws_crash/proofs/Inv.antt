-- What holds of the disk, its entries and what is left to do, and how operations keep it.
use Rattle.std.proofs.Common.{◌≡◌, refl, ℕ, Bool, true, false, ◌||◌, not, List, [], ◌∷◌, ◌++◌, cond, bytes_eq, Option, Some, None, inl, inr, sym, subst, ap, ◌∙◌}
use Rattle.pp_gate.specs.Runs.{IsOn}
use Rattle.pp_target.specs.Name.{name_of}
use Rattle.pp_world.specs.Disk.{View, began, done, undone, view_of}
use Rattle.pp_world.specs.Log.{Log}
use Rattle.pp_world.specs.declared.happening.Happening.TheVariants.{Began, Did}
use Rattle.pp_world.specs.declared.op.DiskOp.{DiskOp}
use Rattle.pp_law.specs.Lists.{Bytes, change, has_text, without}
use Rattle.pp_law.specs.State.{Sent, Entry, Agenda, Todo, Do, Enter, Acknowledge}
use Rattle.pp_law.specs.Store.{is_of_draft, extended}
use Rattle.pp_law.specs.Table.{is_kept_row_of}
use Rattle.pp_laws.specs.Runs.{IsIn}
use Rattle.pp_laws.proofs.Lists.{Changed, in_change, in_push, other, same}
use Rattle.pp_laws.proofs.Tests.{second_holds}
use Rattle.pp_laws_crash.proofs.Backing.{Backed, BackedAt}
use Rattle.pp_laws_crash.proofs.Frames.{WereEntries}
use Rattle.pp_laws_crash.proofs.Going.{Ahead, Along, Goes, MayShut, Midst, OnName, Rests, backed_more, goes_more, ops_of, rests_more}
use Rattle.pp_laws_crash.proofs.Lying.{Held, held_loose}
use Rattle.pp_laws_crash.proofs.Views.{began_failed, differs, done_failed, during_now, left_same, other_began, other_done, other_undone, same_name, undone_slot, unlike, view_more}

-- ---- names that are closed

or_none : (a b : Bool) → (a || b) ≡ false → (a ≡ false) × (b ≡ false)
or_none true b is = absurd (cc is)
or_none false b is = (refl, is)

none_or : (a b : Bool) → a ≡ false → b ≡ false → (a || b) ≡ false
none_or true b one two = absurd (cc one)
none_or false b one two = two

still_none : (name n : Bytes) (closed : List Bytes) → bytes_eq name n ≡ false → has_text n (without (bytes_eq name) closed) ≡ false → has_text n closed ≡ false
still_none name n [] differ none = refl
still_none name n (t ∷ closed) differ none = by (bytes_eq name t) refl (still_none name n closed differ) none
  where
    by : (b : Bool) → bytes_eq name t ≡ b → (has_text n (without (bytes_eq name) closed) ≡ false → has_text n closed ≡ false) → has_text n (cond (not b) (t ∷ without (bytes_eq name) closed) (without (bytes_eq name) closed)) ≡ false → has_text n (t ∷ closed) ≡ false
    by true is rest none = none_or (bytes_eq t n) _ (ap (λ (m : Bytes). bytes_eq m n) (sym (same_name name t is)) ∙ differ) (rest none)
    by false is rest none = let parts = or_none (bytes_eq t n) _ none in none_or (bytes_eq t n) _ parts.0 (rest parts.1)

none_still : (name n : Bytes) (closed : List Bytes) → has_text n closed ≡ false → has_text n (without (bytes_eq name) closed) ≡ false
none_still name n [] none = refl
none_still name n (t ∷ closed) none = let parts = or_none (bytes_eq t n) _ none in by (bytes_eq name t) parts.0 (none_still name n closed parts.1)
  where
    by : (b : Bool) → bytes_eq t n ≡ false → has_text n (without (bytes_eq name) closed) ≡ false → has_text n (cond (not b) (t ∷ without (bytes_eq name) closed) (without (bytes_eq name) closed)) ≡ false
    by true first rest = rest
    by false first rest = none_or (bytes_eq t n) _ first rest

pub was_open : (name n : Bytes) (closed : List Bytes) → has_text n (name ∷ without (bytes_eq name) closed) ≡ false → (n ≡ name → ⊥) × (has_text n closed ≡ false)
was_open name n closed none =
    let parts = or_none (bytes_eq name n) _ none in
    ((λ is. differs name n parts.0 (sym is)), still_none name n closed parts.0 parts.1)

pub stays_open : (name n : Bytes) (closed : List Bytes) → (n ≡ name → ⊥) → has_text n closed ≡ false → has_text n (name ∷ without (bytes_eq name) closed) ≡ false
stays_open name n closed differ none = none_or (bytes_eq name n) _ (unlike (bytes_eq name n) (λ is. differ (sym (same_name name n is)))) (none_still name n closed none)

-- ---- where nothing is left to do

pub record AtRest (sent : List Sent) (disk : Log) (closed : List Bytes) (recovers : Bool) (entries : List Entry) : Type 0 where
  pub backed : (name : Bytes) → Backed sent name (view_of name disk)
  pub rests : (name : Bytes) → has_text name closed ≡ false → Rests sent recovers entries name (view_of name disk)
  pub own : (e : Entry) → IsIn e entries → name_of e.key ≡ e.name
  pub open_names : recovers ≡ true → (e : Entry) → IsIn e entries → has_text e.name closed ≡ false

-- ---- where something may be

pub data Busy (sent : List Sent) (disk : Log) (agenda : Agenda) (under_way : Option DiskOp) (closed : List Bytes) (recovers : Bool) (entries : List Entry) : Type 0 where
  is_shut : has_text agenda.name closed ≡ true → agenda.todo ≡ [] → under_way ≡ None → Busy sent disk agenda under_way closed recovers entries
  goes_on : has_text agenda.name closed ≡ false → OnName recovers agenda.name agenda.todo → Goes sent recovers entries agenda.name agenda.todo under_way (view_of agenda.name disk) → Busy sent disk agenda under_way closed recovers entries

pub record InvOf (sent : List Sent) (disk : Log) (agenda : Agenda) (under_way : Option DiskOp) (closed : List Bytes) (recovers : Bool) (entries : List Entry) : Type 0 where
  pub backed : (name : Bytes) → Backed sent name (view_of name disk)
  pub rests : (name : Bytes) → has_text name closed ≡ false → (name ≡ agenda.name → ⊥) → Rests sent recovers entries name (view_of name disk)
  pub busy : Busy sent disk agenda under_way closed recovers entries
  pub own : (e : Entry) → IsIn e entries → name_of e.key ≡ e.name
  pub open_names : recovers ≡ true → (e : Entry) → IsIn e entries → has_text e.name closed ≡ false

pub shut_of : {sent : List Sent} {recovers : Bool} {entries : List Entry} {name : Bytes} {v : View} → Rests sent recovers entries name v → MayShut sent entries name v
shut_of r = record { sound = r.sound; loose = λ e i is. held_loose (r.held e i is) }

pub ahead_none : {sent : List Sent} {recovers : Bool} {entries : List Entry} {name : Bytes} {v : View} → Backed sent name v → Rests sent recovers entries name v → Ahead sent recovers entries name [] v
ahead_none b r = record { during = b; along = λ rec. shut_of r; last = r }

-- by name
pub same_or : {A : Type 0} (n m : Bytes) → (n ≡ m → A) → ((n ≡ m → ⊥) → A) → A
same_or {A} n m is isnt = by (bytes_eq n m) refl
  where
    by : (b : Bool) → bytes_eq n m ≡ b → A
    by true eq = is (same_name n m eq)
    by false eq = isnt (differs n m eq)

module _ {sent : List Sent} {disk : Log} {closed : List Bytes} {recovers : Bool} {entries : List Entry} where
  pub rest_of : {agenda : Agenda} {under_way : Option DiskOp} → InvOf sent disk agenda under_way closed recovers entries → agenda.todo ≡ [] → under_way ≡ None → AtRest sent disk closed recovers entries
  rest_of {agenda} {under_way} h nothing idle = record {
    backed = h.backed;
    rests = λ name isnt. same_or name agenda.name (λ is. subst (λ n. Rests sent recovers entries n (view_of n disk)) (sym is) (by (subst (λ n. has_text n closed ≡ false) is isnt) h.busy)) (λ differ. h.rests name isnt differ);
    own = h.own;
    open_names = h.open_names;
  }
    where
      none_left : (todo : List Todo) (op : Option DiskOp) (name : Bytes) (v : View) → todo ≡ [] → op ≡ None → Goes sent recovers entries name todo op v → Rests sent recovers entries name v
      none_left [] None name v none is g = g.last
      none_left [] (Some op) name v none is g = absurd (cc is)
      none_left (t ∷ todo) op name v none is g = absurd (cc none)

      by : has_text agenda.name closed ≡ false → Busy sent disk agenda under_way closed recovers entries → Rests sent recovers entries agenda.name (view_of agenda.name disk)
      by isnt (is_shut is none idle_is) = let both : true ≡ false = sym is ∙ isnt in absurd (cc both)
      by isnt (goes_on is on g) = none_left agenda.todo under_way agenda.name (view_of agenda.name disk) nothing idle g

  pub planned : AtRest sent disk closed recovers entries → (agenda : Agenda) → has_text agenda.name closed ≡ false → OnName recovers agenda.name agenda.todo → Ahead sent recovers entries agenda.name agenda.todo (view_of agenda.name disk)
      → InvOf sent disk agenda None closed recovers entries
  planned h agenda isnt on ahead = record {
    backed = h.backed;
    rests = λ name open_is differ. h.rests name open_is;
    busy = goes_on isnt on ahead;
    own = h.own;
    open_names = h.open_names;
  }

  pub idle : AtRest sent disk closed recovers entries → (agenda : Agenda) → agenda.todo ≡ [] → InvOf sent disk agenda None closed recovers entries
  idle h agenda nothing = record {
    backed = h.backed;
    rests = λ name open_is differ. h.rests name open_is;
    busy = by (has_text agenda.name closed) refl;
    own = h.own;
    open_names = h.open_names;
  }
    where
      by : (b : Bool) → has_text agenda.name closed ≡ b → Busy sent disk agenda None closed recovers entries
      by true is = is_shut is nothing refl
      by false is = goes_on is (subst (OnName recovers agenda.name) (sym nothing) tt)
          (subst (λ todo. Ahead sent recovers entries agenda.name todo (view_of agenda.name disk)) (sym nothing) (ahead_none (h.backed agenda.name) (h.rests agenda.name is)))

-- ---- more is sent, and entries become stale

pub inv_more : {disk : Log} {agenda : Agenda} {under_way : Option DiskOp} {closed : List Bytes} {recovers : Bool} {old entries : List Entry} → (newer sent : List Sent) → WereEntries old entries → InvOf sent disk agenda under_way closed recovers old → InvOf (newer ++ sent) disk agenda under_way closed recovers entries
inv_more {disk} {agenda} {under_way} {closed} {recovers} {old} {entries} newer sent were h = record {
  backed = λ name. backed_more newer sent name (view_of name disk) (h.backed name);
  rests = λ name isnt differ. rests_more newer sent were (h.rests name isnt differ);
  busy = by h.busy;
  own = λ e i. let w = were e i in ap name_of w.key ∙ h.own w.was w.there ∙ sym w.name;
  open_names = λ r e i. let w = were e i in subst (λ n. has_text n closed ≡ false) (sym w.name) (h.open_names r w.was w.there);
}
  where
    by : Busy sent disk agenda under_way closed recovers old → Busy (newer ++ sent) disk agenda under_way closed recovers entries
    by (is_shut is none idle_is) = is_shut is none idle_is
    by (goes_on is on g) = goes_on is on (goes_more recovers entries agenda.name agenda.todo (view_of agenda.name disk) newer sent under_way were g)

-- where open_is operation is left
along_last : (name : Bytes) (P L : View → Type 0) (ops : List DiskOp) (v : View) → ops ≡ [] → L v → Along name v ops P L
along_last name P L [] v none l = l
along_last name P L (op ∷ ops) v none l = absurd (cc none)

-- ---- one happening on the disk

-- a view with the same files, on which open_is more failed
held_same : {sent : List Sent} {recovers : Bool} {e : Entry} {v w : View} → w.slot ≡ v.slot → Held sent recovers e v → Held sent recovers e w
held_same is h = record { gates = h.gates; bytes = h.bytes; slot = is ∙ h.slot; lies = h.lies; shut = h.shut }

rests_same : {sent : List Sent} {recovers : Bool} {entries : List Entry} {name : Bytes} {v w : View} → w.slot ≡ v.slot → w.failed ≡ v.failed → Rests sent recovers entries name v → Rests sent recovers entries name w
rests_same slot failed r = record { sound = failed ∙ r.sound; held = λ e i is. held_same slot (r.held e i is) }

module _ {sent : List Sent} {disk : Log} {closed : List Bytes} {recovers : Bool} {entries : List Entry} where
  -- its first operation begins
  pub began_inv : (agenda : Agenda) (op : DiskOp) (todo : List Todo) → agenda.todo ≡ Do op ∷ todo → InvOf sent disk agenda None closed recovers entries
      → InvOf sent (disk ++ Began op ∷ []) (record agenda { todo = todo }) (Some op) closed recovers entries
  began_inv agenda op todo first h = by h.busy
    where
      at : (name : Bytes) → view_of name (disk ++ Began op ∷ []) ≡ began name op (view_of name disk)
      at name = view_more name disk (Began op)

      by : Busy sent disk agenda None closed recovers entries → InvOf sent (disk ++ Began op ∷ []) (record agenda { todo = todo }) (Some op) closed recovers entries
      by (is_shut is none idle_is) = let both : Do op ∷ todo ≡ [] = sym first ∙ none in absurd (cc both)
      by (goes_on is on_all g) = record {
        backed = λ name. subst (Backed sent name) (sym (at name)) (same_or name agenda.name
            (λ eq. subst (λ n. Backed sent n (began n op (view_of n disk))) (sym eq) a.during.1)
            (λ differ. left_same (BackedAt sent name) (view_of name disk) (began name op (view_of name disk)) (other_began agenda.name name op (view_of name disk) on.0 (λ eq. differ (sym eq))) (h.backed name)));
        rests = λ name open_is differ. subst (Rests sent recovers entries name) (sym (at name))
            (rests_same (other_began agenda.name name op (view_of name disk) on.0 (λ eq. differ (sym eq))) (began_failed name op (view_of name disk)) (h.rests name open_is differ));
        busy = goes_on is on.1 (subst (Midst sent recovers entries agenda.name todo op) (sym (at agenda.name)) (record {
          on = on.0;
          failed = a.during.2;
          lost = a.along.1;
          then = record { during = a.during.3; along = a.along.2; last = a.last };
        }));
        own = h.own;
        open_names = h.open_names;
      }
        where
          on : IsOn agenda.name op × OnName recovers agenda.name todo
          on = subst (OnName recovers agenda.name) first on_all

          a : Ahead sent recovers entries agenda.name (Do op ∷ todo) (view_of agenda.name disk)
          a = subst (λ t. Ahead sent recovers entries agenda.name t (view_of agenda.name disk)) first g

  -- it is done
  pub did_inv : (agenda : Agenda) (op : DiskOp) → InvOf sent disk agenda (Some op) closed recovers entries → InvOf sent (disk ++ Did op true ∷ []) agenda None closed recovers entries
  did_inv agenda op h = by h.busy
    where
      at : (name : Bytes) → view_of name (disk ++ Did op true ∷ []) ≡ done name op (view_of name disk)
      at name = view_more name disk (Did op true)

      by : Busy sent disk agenda (Some op) closed recovers entries → InvOf sent (disk ++ Did op true ∷ []) agenda None closed recovers entries
      by (is_shut is none idle_is) = absurd (cc idle_is)
      by (goes_on is on_all g) = record {
        backed = λ name. subst (Backed sent name) (sym (at name)) (same_or name agenda.name
            (λ eq. subst (λ n. Backed sent n (done n op (view_of n disk))) (sym eq) (during_now agenda.name (done agenda.name op (view_of agenda.name disk)) (ops_of agenda.todo) (Backed sent agenda.name) g.then.during))
            (λ differ. left_same (BackedAt sent name) (view_of name disk) (done name op (view_of name disk)) (other_done agenda.name name op (view_of name disk) g.on (λ eq. differ (sym eq))) (h.backed name)));
        rests = λ name open_is differ. subst (Rests sent recovers entries name) (sym (at name))
            (rests_same (other_done agenda.name name op (view_of name disk) g.on (λ eq. differ (sym eq))) (done_failed name op (view_of name disk)) (h.rests name open_is differ));
        busy = goes_on is on_all (subst (Ahead sent recovers entries agenda.name agenda.todo) (sym (at agenda.name)) g.then);
        own = h.own;
        open_names = h.open_names;
      }

  -- it failed
  failed_backed : (agenda : Agenda) (op : DiskOp) → InvOf sent disk agenda (Some op) closed recovers entries → Midst sent recovers entries agenda.name agenda.todo op (view_of agenda.name disk) → (name : Bytes) → Backed sent name (view_of name (disk ++ Did op false ∷ []))
  failed_backed agenda op h g name = subst (Backed sent name) (sym (view_more name disk (Did op false)))
      (left_same (BackedAt sent name) (view_of name disk) (undone name op (view_of name disk)) (undone_slot name op (view_of name disk)) (h.backed name))

  failed_rests : (agenda : Agenda) (op : DiskOp) → InvOf sent disk agenda (Some op) closed recovers entries → Midst sent recovers entries agenda.name agenda.todo op (view_of agenda.name disk) → (name : Bytes) → has_text name closed ≡ false → (name ≡ agenda.name → ⊥)
      → Rests sent recovers entries name (view_of name (disk ++ Did op false ∷ []))
  failed_rests agenda op h g name open_is differ = subst (Rests sent recovers entries name) (sym (view_more name disk (Did op false)))
      (rests_same (undone_slot name op (view_of name disk)) (other_undone agenda.name name op (view_of name disk) g.on (λ eq. differ (sym eq))) (h.rests name open_is differ))

  pub lost_rest : (agenda : Agenda) (op : DiskOp) → is_of_draft op ≡ true → InvOf sent disk agenda (Some op) closed recovers entries → AtRest sent (disk ++ Did op false ∷ []) closed recovers entries
  lost_rest agenda op is_draft h = by h.busy
    where
      by : Busy sent disk agenda (Some op) closed recovers entries → AtRest sent (disk ++ Did op false ∷ []) closed recovers entries
      by (is_shut is none idle_is) = absurd (cc idle_is)
      by (goes_on is on_all g) = record {
        backed = failed_backed agenda op h g;
        rests = λ name open_is. same_or name agenda.name
            (λ eq. subst (λ n. Rests sent recovers entries n (view_of n (disk ++ Did op false ∷ []))) (sym eq) (subst (Rests sent recovers entries agenda.name) (sym (view_more agenda.name disk (Did op false))) (g.lost is_draft)))
            (λ differ. failed_rests agenda op h g name open_is differ);
        own = h.own;
        open_names = h.open_names;
      }

  -- and its name is closed
  pub closed_rest : (agenda : Agenda) (op : DiskOp) → InvOf sent disk agenda (Some op) closed recovers entries
      → (fewer : List Entry) → ((e : Entry) → IsIn e fewer → IsIn e entries) → (recovers ≡ true → (e : Entry) → IsIn e fewer → e.name ≡ agenda.name → ⊥)
      → AtRest sent (disk ++ Did op false ∷ []) (agenda.name ∷ without (bytes_eq agenda.name) closed) recovers fewer
  closed_rest agenda op h fewer within out = by h.busy
    where
      by : Busy sent disk agenda (Some op) closed recovers entries → AtRest sent (disk ++ Did op false ∷ []) (agenda.name ∷ without (bytes_eq agenda.name) closed) recovers fewer
      by (is_shut is none idle_is) = absurd (cc idle_is)
      by (goes_on is on_all g) = record {
        backed = failed_backed agenda op h g;
        rests = λ name open_is. let was = was_open agenda.name name closed open_is in let r = failed_rests agenda op h g name was.1 was.0 in record { sound = r.sound; held = λ e i. r.held e (within e i) };
        own = λ e i. h.own e (within e i);
        open_names = λ r e i. stays_open agenda.name e.name closed (out r e i) (h.open_names r e (within e i));
      }

  -- a name is closed while nothing is under way
  pub shut_rest : (name : Bytes) → AtRest sent disk closed recovers entries
      → (fewer : List Entry) → ((e : Entry) → IsIn e fewer → IsIn e entries) → (recovers ≡ true → (e : Entry) → IsIn e fewer → e.name ≡ name → ⊥)
      → AtRest sent disk (name ∷ without (bytes_eq name) closed) recovers fewer
  shut_rest name h fewer within out = record {
    backed = h.backed;
    rests = λ n open_is. let was = was_open name n closed open_is in let r = h.rests n was.1 in record { sound = r.sound; held = λ e i. r.held e (within e i) };
    own = λ e i. h.own e (within e i);
    open_names = λ r e i. stays_open name e.name closed (out r e i) (h.open_names r e (within e i));
  }

  -- fewer entries
  pub fewer_rest : AtRest sent disk closed recovers entries → (fewer : List Entry) → ((e : Entry) → IsIn e fewer → IsIn e entries) → AtRest sent disk closed recovers fewer
  fewer_rest h fewer within = record {
    backed = h.backed;
    rests = λ n open_is. let r = h.rests n open_is in record { sound = r.sound; held = λ e i. r.held e (within e i) };
    own = λ e i. h.own e (within e i);
    open_names = λ r e i. h.open_names r e (within e i);
  }

  -- a published file is an entry
  pub entered_inv : (agenda : Agenda) (e : Entry) (todo : List Todo) → agenda.todo ≡ Enter e ∷ todo → InvOf sent disk agenda None closed recovers entries
      → InvOf sent disk (record agenda { todo = todo }) None closed recovers (entries ++ e ∷ [])
  entered_inv agenda e todo first h = by h.busy
    where
      by : Busy sent disk agenda None closed recovers entries → InvOf sent disk (record agenda { todo = todo }) None closed recovers (entries ++ e ∷ [])
      by (is_shut is none idle_is) = let both : Enter e ∷ todo ≡ [] = sym first ∙ none in absurd (cc both)
      by (goes_on is on_all g) = record {
        backed = h.backed;
        rests = λ name open_is differ. let r = h.rests name open_is differ in record { sound = r.sound; held = λ d i eq. elim (in_push d entries e i) [ inl there ↦ r.held d there eq | inr is_e ↦ absurd (differ (sym eq ∙ ap (λ (x : Entry). x.name) is_e ∙ on.1)) ] };
        busy = goes_on is on.4 (record { during = a.during; along = along_last agenda.name _ _ (ops_of todo) (view_of agenda.name disk) on.3 (λ r. let both : true ≡ false = sym r ∙ on.0 in absurd (cc both)); last = a.last });
        own = λ d i. elim (in_push d entries e i) [ inl there ↦ h.own d there | inr is_e ↦ ap (λ (x : Entry). name_of x.key) is_e ∙ on.2 ∙ ap (λ (x : Entry). x.name) (sym is_e) ];
        open_names = λ r d i. let both : true ≡ false = sym r ∙ on.0 in absurd (cc both);
      }
        where
          on : (recovers ≡ false) × (e.name ≡ agenda.name) × (name_of e.key ≡ e.name) × (ops_of todo ≡ []) × OnName recovers agenda.name todo
          on = subst (OnName recovers agenda.name) first on_all

          a : Ahead sent recovers entries agenda.name (Enter e ∷ todo) (view_of agenda.name disk)
          a = subst (λ t. Ahead sent recovers entries agenda.name t (view_of agenda.name disk)) first g

  -- what was sealed is noted
  pub noted_inv : (agenda : Agenda) (key tag : Bytes) (n extent : ℕ) (todo : List Todo) → agenda.todo ≡ Acknowledge key tag n extent ∷ todo → InvOf sent disk agenda None closed recovers entries
      → InvOf sent disk (record agenda { todo = todo }) None closed recovers (change (is_kept_row_of key) (extended extent) entries)
  noted_inv agenda key tag n extent todo first h = by h.busy
    where
      by : Busy sent disk agenda None closed recovers entries → InvOf sent disk (record agenda { todo = todo }) None closed recovers (change (is_kept_row_of key) (extended extent) entries)
      by (is_shut is none idle_is) = let both : Acknowledge key tag n extent ∷ todo ≡ [] = sym first ∙ none in absurd (cc both)
      by (goes_on is on_all g) = record {
        backed = h.backed;
        rests = λ name open_is differ. let r = h.rests name open_is differ in record { sound = r.sound; held = λ d i eq. held_by name differ r d (in_change (is_kept_row_of key) (extended extent) d entries i) eq };
        busy = goes_on is on.3 (record { during = a.during; along = along_last agenda.name _ _ (ops_of todo) (view_of agenda.name disk) on.2 (λ r. let both : true ≡ false = sym r ∙ on.0 in absurd (cc both)); last = a.last });
        own = λ d i. own_by d (in_change (is_kept_row_of key) (extended extent) d entries i);
        open_names = λ r d i. let both : true ≡ false = sym r ∙ on.0 in absurd (cc both);
      }
        where
          on : (recovers ≡ false) × (name_of key ≡ agenda.name) × (ops_of todo ≡ []) × OnName recovers agenda.name todo
          on = subst (OnName recovers agenda.name) first on_all

          a : Ahead sent recovers entries agenda.name (Acknowledge key tag n extent ∷ todo) (view_of agenda.name disk)
          a = subst (λ t. Ahead sent recovers entries agenda.name t (view_of agenda.name disk)) first g

          own_by : (d : Entry) → Changed (is_kept_row_of key) (extended extent) entries d → name_of d.key ≡ d.name
          own_by d (same there isnt) = h.own d there
          own_by d (other x there is_x eq) = ap (λ (y : Entry). name_of y.key) eq ∙ h.own x there ∙ ap (λ (y : Entry). y.name) (sym eq)

          held_by : (name : Bytes) → (name ≡ agenda.name → ⊥) → Rests sent recovers entries name (view_of name disk) → (d : Entry) → Changed (is_kept_row_of key) (extended extent) entries d → d.name ≡ name → Held sent recovers d (view_of name disk)
          held_by name differ r d (same there isnt) eq = r.held d there eq
          held_by name differ r d (other x there is_x eq_x) eq =
              let key_is : x.key ≡ key = same_name x.key key (second_holds (not x.is_stale) _ is_x) in
              absurd (differ (sym eq ∙ ap (λ (y : Entry). y.name) eq_x ∙ sym (h.own x there) ∙ ap name_of key_is ∙ on.1))
