-- What is left to do on the disk, and what holds at each step of it.
use Rattle.std.proofs.Common.{◌≡◌, ◌⊎◌, ◌+◌, ◌<◌, ℕ, refl, Bool, true, false, not, List, [], ◌∷◌, ◌++◌, Option, Some, None, inl, inr, sym, subst, ap, ◌∙◌}
use Rattle.pp_entry.specs.Texts.{chunks_of}
use Rattle.pp_gate.specs.Runs.{During, IsOn}
use Rattle.pp_gate.proofs.Views.{done_view}
use Rattle.pp_target.specs.Name.{name_of}
use Rattle.pp_world.specs.Disk.{View, began, done, undone}
use Rattle.pp_world.specs.declared.op.DiskOp.{DiskOp}
use Rattle.pp_law.specs.Lists.{Bytes, change}
use Rattle.pp_law.specs.State.{Sent, Entry, Todo, Do, Enter, Acknowledge}
use Rattle.pp_law.specs.Store.{is_of_draft, extended}
use Rattle.pp_law.specs.Table.{is_kept_row_of}
use Rattle.pp_laws.specs.Runs.{IsIn}
use Rattle.pp_laws.proofs.Lists.{Changed, in_change, in_front, in_push, other, same}
use Rattle.pp_laws.proofs.Tests.{first_holds}
use Rattle.pp_laws_crash.proofs.Backing.{Backed, BackedAt, backed_at_more}
use Rattle.pp_laws_crash.proofs.Frames.{WasEntry, WereEntries, now_at, in_changed}
use Rattle.pp_laws_crash.proofs.Lying.{Held, HeldAll, Loose, LooseAll, held_more, lies_as, loose_more}
use Rattle.pp_laws_crash.proofs.Views.{during_map, left_map}

abbrev pub ops_of : List Todo → List DiskOp
ops_of [] = []
ops_of (Do op ∷ todo) = op ∷ ops_of todo
ops_of (Enter e ∷ todo) = ops_of todo
ops_of (Acknowledge key tag n extent ∷ todo) = ops_of todo

-- the entries once all of it was done
abbrev pub entries_after : List Todo → List Entry → List Entry
entries_after [] entries = entries
entries_after (Do op ∷ todo) entries = entries_after todo entries
entries_after (Enter e ∷ todo) entries = entries_after todo (entries ++ e ∷ [])
entries_after (Acknowledge key tag n extent ∷ todo) entries = entries_after todo (change (is_kept_row_of key) (extended extent) entries)

-- all of it is on this name; what is noted comes last, and not while a life recovers
abbrev pub OnName : Bool → Bytes → List Todo → Type 0
OnName recovers name [] = Unit {0}
OnName recovers name (Do op ∷ todo) = IsOn name op × OnName recovers name todo
OnName recovers name (Enter e ∷ todo) = (recovers ≡ false) × (e.name ≡ name) × (name_of e.key ≡ e.name) × (ops_of todo ≡ []) × OnName recovers name todo
OnName recovers name (Acknowledge key tag n extent ∷ todo) = (recovers ≡ false) × (name_of key ≡ name) × (ops_of todo ≡ []) × OnName recovers name todo

-- nothing is under way on the name, and no operation on it failed
pub record Rests (sent : List Sent) (recovers : Bool) (entries : List Entry) (name : Bytes) (v : View) : Type 0 where
  pub sound : v.failed ≡ false
  pub held : HeldAll sent recovers entries name v

-- while a life recovers, more gates may be closed
pub record MayShut (sent : List Sent) (entries : List Entry) (name : Bytes) (v : View) : Type 0 where
  pub sound : v.failed ≡ false
  pub loose : LooseAll sent entries name v

-- P where a draft may fail, and L before each operation
abbrev pub Along : Bytes → View → List DiskOp → (View → Type 0) → (View → Type 0) → Type 0
Along name v [] P L = L v
Along name v (op ∷ ops) P L = L v × (is_of_draft op ≡ true → P (undone name op (began name op v))) × Along name (done name op (began name op v)) ops P L

abbrev pub IfRecovers : List Sent → Bool → List Entry → Bytes → View → Type 0
IfRecovers sent recovers entries name v = recovers ≡ true → MayShut sent entries name v

-- these are left
pub record Ahead (sent : List Sent) (recovers : Bool) (entries : List Entry) (name : Bytes) (todo : List Todo) (v : View) : Type 0 where
  pub during : During name v (ops_of todo) (Backed sent name)
  pub along : Along name v (ops_of todo) (Rests sent recovers entries name) (IfRecovers sent recovers entries name)
  pub last : Rests sent recovers (entries_after todo entries) name (done_view name v (ops_of todo))

-- and one more is under way
pub record Midst (sent : List Sent) (recovers : Bool) (entries : List Entry) (name : Bytes) (todo : List Todo) (op : DiskOp) (v : View) : Type 0 where
  pub on : IsOn name op
  pub failed : Backed sent name (undone name op v)
  pub lost : is_of_draft op ≡ true → Rests sent recovers entries name (undone name op v)
  pub then : Ahead sent recovers entries name todo (done name op v)

abbrev pub Goes : List Sent → Bool → List Entry → Bytes → List Todo → Option DiskOp → View → Type 0
Goes sent recovers entries name todo None v = Ahead sent recovers entries name todo v
Goes sent recovers entries name todo (Some op) v = Midst sent recovers entries name todo op v

-- ---- more is sent, and entries become stale

pub held_as : {sent : List Sent} {recovers : Bool} {v : View} → (e was : Entry) → e.key ≡ was.key → e.version ≡ was.version → (e.is_stale ≡ false → e ≡ was) → Held sent recovers was v → Held sent recovers e v
held_as {sent} {recovers} {v} e was key version fresh h = record {
  gates = h.gates;
  bytes = h.bytes;
  slot = h.slot;
  lies = lies_as e key version (λ f. ap (λ (x : Entry). x.extent) (fresh f) ∙ h.lies.extent (sym (ap (λ (x : Entry). x.is_stale) (fresh f)) ∙ f)) h.lies;
  shut = λ r i le lt. h.shut r i le (subst (λ n. i < chunks_of n) (ap (λ w. w.length) version) lt);
}

pub loose_as : {sent : List Sent} {v : View} → (e was : Entry) → e.key ≡ was.key → e.version ≡ was.version → (e.is_stale ≡ false → e ≡ was) → Loose sent was v → Loose sent e v
loose_as {sent} {v} e was key version fresh h = record {
  gates = h.gates;
  file = h.file;
  slot = h.slot;
  lies = lies_as e key version (λ f. ap (λ (x : Entry). x.extent) (fresh f) ∙ h.lies.extent (sym (ap (λ (x : Entry). x.is_stale) (fresh f)) ∙ f)) h.lies;
  synced_is = h.synced_is;
  end_is = h.end_is;
  strays = λ o is. let w = h.strays o is in (w.0, subst (λ n. o < 8192 + chunks_of n) (ap (λ w. w.length) (sym version)) w.1);
}

pub were_push : (e : Entry) (old entries : List Entry) → WereEntries old entries → WereEntries (old ++ e ∷ []) (entries ++ e ∷ [])
were_push e old entries were d i = by (in_push d entries e i)
  where
    in_end : (x : Entry) (xs : List Entry) → IsIn x (xs ++ x ∷ [])
    in_end x [] = inl refl
    in_end x (y ∷ ys) = inr (in_end x ys)

    by : IsIn d entries ⊎ (d ≡ e) → WasEntry (old ++ e ∷ []) d
    by (inl there) = let w = were d there in record { was = w.was; there = in_front w.was old (e ∷ []) w.there; name = w.name; key = w.key; version = w.version; fresh = w.fresh }
    by (inr is) = record { was = e; there = in_end e old; name = ap (λ (x : Entry). x.name) is; key = ap (λ (x : Entry). x.key) is; version = ap (λ (x : Entry). x.version) is; fresh = λ f. is }

extended_same : (extent : ℕ) (p : Entry → Bool) (e : Entry) (b : Bool) → p e ≡ b → ((now_at p (extended extent) e).name ≡ e.name) × ((now_at p (extended extent) e).key ≡ e.key) × ((now_at p (extended extent) e).version ≡ e.version)
extended_same extent p e b is = (by p b is, by_key p b is, by_version p b is)
  where
    by : (p : Entry → Bool) (b : Bool) → p e ≡ b → (elim (p e) as (λ c. Entry) [ true ↦ extended extent e | false ↦ e ]).name ≡ e.name
    by p true is = ap (λ (t : Bool). (elim t as (λ c. Entry) [ true ↦ extended extent e | false ↦ e ]).name) is
    by p false is = ap (λ (t : Bool). (elim t as (λ c. Entry) [ true ↦ extended extent e | false ↦ e ]).name) is

    by_key : (p : Entry → Bool) (b : Bool) → p e ≡ b → (elim (p e) as (λ c. Entry) [ true ↦ extended extent e | false ↦ e ]).key ≡ e.key
    by_key p true is = ap (λ (t : Bool). (elim t as (λ c. Entry) [ true ↦ extended extent e | false ↦ e ]).key) is
    by_key p false is = ap (λ (t : Bool). (elim t as (λ c. Entry) [ true ↦ extended extent e | false ↦ e ]).key) is

    by_version : (p : Entry → Bool) (b : Bool) → p e ≡ b → (elim (p e) as (λ c. Entry) [ true ↦ extended extent e | false ↦ e ]).version ≡ e.version
    by_version p true is = ap (λ (t : Bool). (elim t as (λ c. Entry) [ true ↦ extended extent e | false ↦ e ]).version) is
    by_version p false is = ap (λ (t : Bool). (elim t as (λ c. Entry) [ true ↦ extended extent e | false ↦ e ]).version) is

now_extended : (extent : ℕ) (p : Entry → Bool) (e : Entry) → p e ≡ true → now_at p (extended extent) e ≡ extended extent e
now_extended extent p e is = ap (λ (t : Bool). elim t as (λ c. Entry) [ true ↦ extended extent e | false ↦ e ]) is

now_same : (extent : ℕ) (p : Entry → Bool) (e : Entry) → p e ≡ false → now_at p (extended extent) e ≡ e
now_same extent p e is = ap (λ (t : Bool). elim t as (λ c. Entry) [ true ↦ extended extent e | false ↦ e ]) is

not_false : (b : Bool) → not b ≡ true → b ≡ false
not_false true is = absurd (cc is)
not_false false is = refl

pub kept_is_fresh : (key : Bytes) (e : Entry) → is_kept_row_of key e ≡ true → e.is_stale ≡ false
kept_is_fresh key e is = not_false e.is_stale (first_holds (not e.is_stale) _ is)

were_extended : (key : Bytes) (extent : ℕ) (old entries : List Entry) → WereEntries old entries → WereEntries (change (is_kept_row_of key) (extended extent) old) (change (is_kept_row_of key) (extended extent) entries)
were_extended key extent old entries were d i = by (in_change (is_kept_row_of key) (extended extent) d entries i)
  where
    there_of : (w : WasEntry old d) → IsIn (now_at (is_kept_row_of key) (extended extent) w.was) (change (is_kept_row_of key) (extended extent) old)
    there_of w = in_changed (is_kept_row_of key) (extended extent) old w.was w.there

    by : Changed (is_kept_row_of key) (extended extent) entries d → WasEntry (change (is_kept_row_of key) (extended extent) old) d
    by (same there isnt) =
        let w = were d there in
        let parts = extended_same extent (is_kept_row_of key) w.was (is_kept_row_of key w.was) refl in
        record {
          was = now_at (is_kept_row_of key) (extended extent) w.was;
          there = there_of w;
          name = w.name ∙ sym parts.0;
          key = w.key ∙ sym parts.1;
          version = w.version ∙ sym parts.2;
          fresh = λ f. w.fresh f ∙ sym (now_same extent (is_kept_row_of key) w.was (ap (is_kept_row_of key) (sym (w.fresh f)) ∙ isnt));
        }
    by (other x there is eq) =
        let w = were x there in
        let x_is : x ≡ w.was = w.fresh (kept_is_fresh key x is) in
        let now : now_at (is_kept_row_of key) (extended extent) w.was ≡ extended extent w.was = now_extended extent (is_kept_row_of key) w.was (ap (is_kept_row_of key) (sym x_is) ∙ is) in
        let d_is : d ≡ now_at (is_kept_row_of key) (extended extent) w.was = eq ∙ ap (extended extent) x_is ∙ sym now in
        record {
          was = now_at (is_kept_row_of key) (extended extent) w.was;
          there = in_changed (is_kept_row_of key) (extended extent) old w.was w.there;
          name = ap (λ (y : Entry). y.name) d_is;
          key = ap (λ (y : Entry). y.key) d_is;
          version = ap (λ (y : Entry). y.version) d_is;
          fresh = λ f. d_is;
        }

pub were_after : (todo : List Todo) (old entries : List Entry) → WereEntries old entries → WereEntries (entries_after todo old) (entries_after todo entries)
were_after [] old entries were = were
were_after (Do op ∷ todo) old entries were = were_after todo old entries were
were_after (Enter e ∷ todo) old entries were = were_after todo _ _ (were_push e old entries were)
were_after (Acknowledge key tag n extent ∷ todo) old entries were = were_after todo _ _ (were_extended key extent old entries were)

pub rests_more : {recovers : Bool} {old entries : List Entry} {name : Bytes} {v : View} → (newer sent : List Sent) → WereEntries old entries → Rests sent recovers old name v → Rests (newer ++ sent) recovers entries name v
rests_more newer sent were r = record {
  sound = r.sound;
  held = λ e i is. let w = were e i in held_as e w.was w.key w.version w.fresh (held_more newer sent (r.held w.was w.there (sym w.name ∙ is)));
}

pub may_shut_more : {old entries : List Entry} {name : Bytes} {v : View} → (newer sent : List Sent) → WereEntries old entries → MayShut sent old name v → MayShut (newer ++ sent) entries name v
may_shut_more newer sent were r = record {
  sound = r.sound;
  loose = λ e i is. let w = were e i in loose_as e w.was w.key w.version w.fresh (loose_more newer sent (r.loose w.was w.there (sym w.name ∙ is)));
}

pub backed_more : (newer sent : List Sent) (name : Bytes) (v : View) → Backed sent name v → Backed (newer ++ sent) name v
backed_more newer sent name v b = left_map (BackedAt sent name) (BackedAt (newer ++ sent) name) v (λ file. backed_at_more newer sent name file) b

pub along_map : (name : Bytes) (v : View) (ops : List DiskOp) (P Q L M : View → Type 0) → ((w : View) → P w → Q w) → ((w : View) → L w → M w) → Along name v ops P L → Along name v ops Q M
along_map name v [] P Q L M one two a = two v a
along_map name v (op ∷ ops) P Q L M one two a = (two v a.0, λ is. one (undone name op (began name op v)) (a.1 is), along_map name (done name op (began name op v)) ops P Q L M one two a.2)

pub ahead_more : {recovers : Bool} {old entries : List Entry} {name : Bytes} {todo : List Todo} {v : View} → (newer sent : List Sent) → WereEntries old entries → Ahead sent recovers old name todo v → Ahead (newer ++ sent) recovers entries name todo v
ahead_more {recovers} {old} {entries} {name} {todo} {v} newer sent were a = record {
  during = during_map name v (ops_of todo) (Backed sent name) (Backed (newer ++ sent) name) (λ w. backed_more newer sent name w) a.during;
  along = along_map name v (ops_of todo) (Rests sent recovers old name) (Rests (newer ++ sent) recovers entries name) (IfRecovers sent recovers old name) (IfRecovers (newer ++ sent) recovers entries name)
      (λ w. rests_more newer sent were) (λ w l r. may_shut_more newer sent were (l r)) a.along;
  last = rests_more newer sent (were_after todo old entries were) a.last;
}

pub goes_more : (recovers : Bool) {old : List Entry} (entries : List Entry) (name : Bytes) (todo : List Todo) (v : View) (newer sent : List Sent) (under_way : Option DiskOp) → WereEntries old entries → Goes sent recovers old name todo under_way v → Goes (newer ++ sent) recovers entries name todo under_way v
goes_more recovers entries name todo v newer sent None were g = ahead_more newer sent were g
goes_more recovers entries name todo v newer sent (Some op) were g = record {
  on = g.on;
  failed = backed_more newer sent name (undone name op v) g.failed;
  lost = λ is. rests_more newer sent were (g.lost is);
  then = ahead_more newer sent were g.then;
}
