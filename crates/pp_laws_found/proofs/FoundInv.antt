-- What holds of what was acknowledged, and how operations keep it.
use Rattle.std.proofs.Common.{◌≡◌, ◌⊎◌, ⊎_elim, refl, ℕ, Bool, true, false, List, [], ◌∷◌, ◌++◌, filter, cond, bytes_eq, Option, Some, None, inl, inr, sym, subst, ap, ◌∙◌}
use Rattle.pp_gate.specs.Runs.{During, IsOn}
use Rattle.pp_target.specs.Name.{name_of}
use Rattle.pp_world.specs.Disk.{View, began, done, undone, view_of}
use Rattle.pp_world.specs.Log.{Log}
use Rattle.pp_world.specs.declared.happening.Happening.TheVariants.{Began, Did, Noted}
use Rattle.pp_world.specs.declared.note.Remark.TheVariants.{Kept as NotedKept, Gone}
use Rattle.pp_world.specs.declared.op.DiskOp.{DiskOp}
use Rattle.pp_law.specs.Lists.{Bytes, has_text, without}
use Rattle.pp_law.specs.State.{Entry, Agenda, Todo, Do, Enter, Acknowledge}
use Rattle.pp_laws.specs.Runs.{IsIn}
use Rattle.pp_laws.proofs.Lists.{in_front, in_push}
use Rattle.pp_laws_crash.proofs.Going.{ops_of}
use Rattle.pp_laws_crash.proofs.Inv.{same_or, was_open}
use Rattle.pp_laws_crash.proofs.Views.{during_now, left_same, other_began, other_done, same_name, undone_slot, view_more}
use Rattle.pp_laws_found.specs.Found.{Acknowledged, noted_of}
use Rattle.pp_laws_found.proofs.FoundAt.{Found, FoundAt}

-- what each key is acknowledged with
abbrev pub Acks : Type 0
Acks = Bytes → Option Acknowledged

abbrev pub acked : Bytes → ℕ → ℕ → Acknowledged
acked tag n extent = record { version = record { tag = tag; length = n }; extent = extent }

-- an entry has that name
pub record HasEntry (entries : List Entry) (name : Bytes) : Type 0 where
  pub entry : Entry
  pub there : IsIn entry entries
  pub named : entry.name ≡ name

-- what is noted is there once the operations before it were done, and an entry has its name
abbrev pub Notes : List Entry → Bytes → List Todo → View → Type 0
Notes entries name [] v = Unit {0}
Notes entries name (Do op ∷ todo) v = Notes entries name todo (done name op (began name op v))
Notes entries name (Enter e ∷ todo) v = Notes (entries ++ e ∷ []) name todo v
Notes entries name (Acknowledge key tag n extent ∷ todo) v = Found key (acked tag n extent) v × HasEntry entries name × Notes entries name todo v

-- at each moment of what is left to do what was acknowledged is there, and so is what is noted
pub record Keeps (acks : Acks) (entries : List Entry) (name : Bytes) (todo : List Todo) (v : View) : Type 0 where
  pub stays : (key : Bytes) (a : Acknowledged) → acks key ≡ Some a → name_of key ≡ name → During name v (ops_of todo) (Found key a)
  pub notes : Notes entries name todo v

abbrev pub GoesOn : Acks → List Entry → Bytes → List Todo → Option DiskOp → View → Type 0
GoesOn acks entries name todo None v = Keeps acks entries name todo v
GoesOn acks entries name todo (Some op) v = Keeps acks entries name todo (done name op v)

-- its name is closed, or an entry has it
abbrev pub IsKnown : List Bytes → List Entry → Bytes → Type 0
IsKnown closed entries name = (has_text name closed ≡ true) ⊎ HasEntry entries name

abbrev pub AllFound : Acks → Log → Type 0
AllFound acks disk = (key : Bytes) (a : Acknowledged) → acks key ≡ Some a → Found key a (view_of (name_of key) disk)

abbrev pub AllKnown : Acks → List Bytes → List Entry → Type 0
AllKnown acks closed entries = (key : Bytes) (a : Acknowledged) → acks key ≡ Some a → IsKnown closed entries (name_of key)

pub record FoundOf (acks : Acks) (disk : Log) (agenda : Agenda) (under_way : Option DiskOp) (closed : List Bytes) (entries : List Entry) : Type 0 where
  pub found : AllFound acks disk
  pub known : AllKnown acks closed entries
  pub going : has_text agenda.name closed ≡ false → GoesOn acks entries agenda.name agenda.todo under_way (view_of agenda.name disk)

-- ---- names of entries

in_end : {A : Type 0} (x : A) (xs : List A) → IsIn x (xs ++ x ∷ [])
in_end x [] = inl refl
in_end x (y ∷ ys) = inr (in_end x ys)

pub pushed_entry : (e : Entry) (entries : List Entry) (name : Bytes) → HasEntry entries name → HasEntry (entries ++ e ∷ []) name
pushed_entry e entries name h = record { entry = h.entry; there = in_front h.entry entries (e ∷ []) h.there; named = h.named }

pub last_entry : (e : Entry) (entries : List Entry) → HasEntry (entries ++ e ∷ []) e.name
last_entry e entries = record { entry = e; there = in_end e entries; named = refl }

pushed_map : (e : Entry) (old entries : List Entry) (name : Bytes) → (HasEntry old name → HasEntry entries name) → HasEntry (old ++ e ∷ []) name → HasEntry (entries ++ e ∷ []) name
pushed_map e old entries name step h = ⊎_elim
    (λ (there : IsIn h.entry old). pushed_entry e entries name (step (record { entry = h.entry; there = there; named = h.named })))
    (λ (is : h.entry ≡ e). subst (HasEntry (entries ++ e ∷ [])) (ap (λ (x : Entry). x.name) (sym is) ∙ h.named) (last_entry e entries))
    (in_push h.entry old e h.there)

notes_map : (name : Bytes) (todo : List Todo) (old entries : List Entry) (v : View) → ((n : Bytes) → HasEntry old n → HasEntry entries n) → Notes old name todo v → Notes entries name todo v
notes_map name [] old entries v step n = tt
notes_map name (Do op ∷ todo) old entries v step n = notes_map name todo old entries (done name op (began name op v)) step n
notes_map name (Enter e ∷ todo) old entries v step n = notes_map name todo (old ++ e ∷ []) (entries ++ e ∷ []) v (λ m h. pushed_map e old entries m (step m) h) n
notes_map name (Acknowledge key tag n extent ∷ todo) old entries v step all = (all.0, step name all.1, notes_map name todo old entries v step all.2)

keeps_map : {acks : Acks} (name : Bytes) (todo : List Todo) (old entries : List Entry) (v : View) → ((n : Bytes) → HasEntry old n → HasEntry entries n) → Keeps acks old name todo v → Keeps acks entries name todo v
keeps_map name todo old entries v step k = record { stays = k.stays; notes = notes_map name todo old entries v step k.notes }

goes_map : (acks : Acks) (name : Bytes) (todo : List Todo) (old entries : List Entry) (under_way : Option DiskOp) (v : View) → ((n : Bytes) → HasEntry old n → HasEntry entries n) → GoesOn acks old name todo under_way v → GoesOn acks entries name todo under_way v
goes_map acks name todo old entries None v step k = keeps_map name todo old entries v step k
goes_map acks name todo old entries (Some op) v step k = keeps_map name todo old entries (done name op v) step k

-- entries of the same names
pub found_map : {acks : Acks} {disk : Log} {agenda : Agenda} {under_way : Option DiskOp} {closed : List Bytes} (old entries : List Entry) → ((n : Bytes) → HasEntry old n → HasEntry entries n)
    → FoundOf acks disk agenda under_way closed old → FoundOf acks disk agenda under_way closed entries
found_map {acks} {disk} {agenda} {under_way} {closed} old entries step h = record {
  found = h.found;
  known = λ key a is. ⊎_elim (λ (shut : has_text (name_of key) closed ≡ true). inl shut) (λ (has : HasEntry old (name_of key)). inr (step (name_of key) has)) (h.known key a is);
  going = λ isnt. goes_map acks agenda.name agenda.todo old entries under_way (view_of agenda.name disk) step (h.going isnt);
}

-- ---- closed names

shut_by : (b : Bool) → (b ≡ false → ⊥) → b ≡ true
shut_by true never = refl
shut_by false never = absurd (never refl)

pub closes : (name n : Bytes) (closed : List Bytes) → (n ≡ name) ⊎ (has_text n closed ≡ true) → has_text n (name ∷ without (bytes_eq name) closed) ≡ true
closes name n closed which = shut_by (has_text n (name ∷ without (bytes_eq name) closed)) (λ isnt. let was = was_open name n closed isnt in
    ⊎_elim (λ (is : n ≡ name). was.0 is) (λ (is : has_text n closed ≡ true). let both : true ≡ false = sym is ∙ was.1 in cc both) which)

into_by : {A : Type 0} (p : A → Bool) (x y : A) (ys zs : List A) (b : Bool) → p y ≡ b → ((x ≡ y) ⊎ IsIn x zs) → p x ≡ true → IsIn x (cond b (y ∷ zs) zs)
into_by p x y ys zs true is here holds = here
into_by p x y ys zs false is (inl eq) holds = let both : false ≡ true = sym is ∙ ap p (sym eq) ∙ holds in absurd (cc both)
into_by p x y ys zs false is (inr i) holds = i

pub into_filter : {A : Type 0} (p : A → Bool) (x : A) (xs : List A) → IsIn x xs → p x ≡ true → IsIn x (filter p xs)
into_filter p x [] i is = absurd i
into_filter p x (y ∷ ys) (inl eq) is = into_by p x y ys (filter p ys) (p y) refl (inl eq) is
into_filter p x (y ∷ ys) (inr i) is = into_by p x y ys (filter p ys) (p y) refl (inr (into_filter p x ys i is)) is

-- ---- nothing is left to do

pub at_rest : {acks : Acks} {disk : Log} {closed : List Bytes} {entries : List Entry} → AllFound acks disk → AllKnown acks closed entries → (agenda : Agenda) → agenda.todo ≡ [] → FoundOf acks disk agenda None closed entries
at_rest {acks} {disk} {closed} {entries} found known agenda nothing = record {
  found = found;
  known = known;
  going = λ isnt. subst (λ todo. Keeps acks entries agenda.name todo (view_of agenda.name disk)) (sym nothing)
      (record { stays = λ key a is named. subst (λ n. Found key a (view_of n disk)) named (found key a is); notes = tt });
}

-- ---- one happening on the disk

module _ {acks : Acks} {disk : Log} {closed : List Bytes} {entries : List Entry} where
  pub found_planned : {agenda : Agenda} {under_way : Option DiskOp} → FoundOf acks disk agenda under_way closed entries → (a : Agenda) → Keeps acks entries a.name a.todo (view_of a.name disk) → FoundOf acks disk a None closed entries
  found_planned h a keeps = record { found = h.found; known = h.known; going = λ isnt. keeps }

  -- its first operation begins
  pub found_began : (agenda : Agenda) (op : DiskOp) (todo : List Todo) → agenda.todo ≡ Do op ∷ todo → has_text agenda.name closed ≡ false → IsOn agenda.name op → FoundOf acks disk agenda None closed entries
      → FoundOf acks (disk ++ Began op ∷ []) (record agenda { todo = todo }) (Some op) closed entries
  found_began agenda op todo first isnt on h = record {
    found = λ key a is. subst (Found key a) (sym (at (name_of key))) (same_or (name_of key) agenda.name
        (λ eq. subst (λ n. Found key a (began n op (view_of n disk))) (sym eq) (k.stays key a is eq).1)
        (λ differ. left_same (FoundAt key a) (view_of (name_of key) disk) (began (name_of key) op (view_of (name_of key) disk)) (other_began agenda.name (name_of key) op (view_of (name_of key) disk) on (λ eq. differ (sym eq))) (h.found key a is)));
    known = h.known;
    going = λ unclosed. subst (λ v. Keeps acks entries agenda.name todo (done agenda.name op v)) (sym (at agenda.name)) (record { stays = λ key a is named. (k.stays key a is named).3; notes = k.notes });
  }
    where
      at : (name : Bytes) → view_of name (disk ++ Began op ∷ []) ≡ began name op (view_of name disk)
      at name = view_more name disk (Began op)

      k : Keeps acks entries agenda.name (Do op ∷ todo) (view_of agenda.name disk)
      k = subst (λ t. Keeps acks entries agenda.name t (view_of agenda.name disk)) first (h.going isnt)

  -- it is done
  pub found_done : (agenda : Agenda) (op : DiskOp) → has_text agenda.name closed ≡ false → IsOn agenda.name op → FoundOf acks disk agenda (Some op) closed entries → FoundOf acks (disk ++ Did op true ∷ []) agenda None closed entries
  found_done agenda op isnt on h = record {
    found = λ key a is. subst (Found key a) (sym (at (name_of key))) (same_or (name_of key) agenda.name
        (λ eq. subst (λ n. Found key a (done n op (view_of n disk))) (sym eq) (during_now agenda.name (done agenda.name op (view_of agenda.name disk)) (ops_of agenda.todo) (Found key a) (k.stays key a is eq)))
        (λ differ. left_same (FoundAt key a) (view_of (name_of key) disk) (done (name_of key) op (view_of (name_of key) disk)) (other_done agenda.name (name_of key) op (view_of (name_of key) disk) on (λ eq. differ (sym eq))) (h.found key a is)));
    known = h.known;
    going = λ unclosed. subst (Keeps acks entries agenda.name agenda.todo) (sym (at agenda.name)) k;
  }
    where
      at : (name : Bytes) → view_of name (disk ++ Did op true ∷ []) ≡ done name op (view_of name disk)
      at name = view_more name disk (Did op true)

      k : Keeps acks entries agenda.name agenda.todo (done agenda.name op (view_of agenda.name disk))
      k = h.going isnt

  -- a published file is an entry
  pub found_entered : (agenda : Agenda) (e : Entry) (todo : List Todo) → agenda.todo ≡ Enter e ∷ todo → FoundOf acks disk agenda None closed entries → FoundOf acks disk (record agenda { todo = todo }) None closed (entries ++ e ∷ [])
  found_entered agenda e todo first h = record {
    found = h.found;
    known = λ key a is. ⊎_elim (λ (shut : has_text (name_of key) closed ≡ true). inl shut) (λ (has : HasEntry entries (name_of key)). inr (pushed_entry e entries (name_of key) has)) (h.known key a is);
    going = λ isnt. let k = subst (λ t. Keeps acks entries agenda.name t (view_of agenda.name disk)) first (h.going isnt) in record { stays = k.stays; notes = k.notes };
  }

-- an operation failed
pub found_failed : (acks : Acks) (disk : Log) (op : DiskOp) → AllFound acks disk → AllFound acks (disk ++ Did op false ∷ [])
found_failed acks disk op found key a is = subst (Found key a) (sym (view_more (name_of key) disk (Did op false)))
    (left_same (FoundAt key a) (view_of (name_of key) disk) (undone (name_of key) op (view_of (name_of key) disk)) (undone_slot (name_of key) op (view_of (name_of key) disk)) (found key a is))

-- ---- notes

noted_by : {key k : Bytes} (a b : Acknowledged) (was : Option Acknowledged) (same : Bool) → bytes_eq key k ≡ same → (elim same as (λ c. Option Acknowledged) [ true ↦ Some b | false ↦ was ]) ≡ Some a → ((key ≡ k) × (b ≡ a)) ⊎ (was ≡ Some a)
noted_by {key} {k} a b was true same is = inl (same_name key k same, cc is)
noted_by a b was false same is = inr is

-- what was sealed is noted
pub found_noted : {acks : Acks} {disk : Log} {closed : List Bytes} {entries : List Entry} (agenda : Agenda) (key tag : Bytes) (n extent : ℕ) (todo : List Todo) → agenda.todo ≡ Acknowledge key tag n extent ∷ todo
    → has_text agenda.name closed ≡ false → name_of key ≡ agenda.name → ops_of todo ≡ [] → FoundOf acks disk agenda None closed entries
    → FoundOf (λ k. noted_of k (acks k) (Noted (NotedKept key tag n extent))) disk (record agenda { todo = todo }) None closed entries
found_noted {acks} {disk} {closed} {entries} agenda key tag n extent todo first isnt own no_more h = record {
  found = λ k a is. found_as k a (noted_by a (acked tag n extent) (acks k) (bytes_eq key k) refl is);
  known = λ k a is. known_as k a (noted_by a (acked tag n extent) (acks k) (bytes_eq key k) refl is);
  going = λ unclosed. record {
    stays = λ k a is named. subst (λ ops. During agenda.name (view_of agenda.name disk) ops (Found k a)) (sym no_more) (subst (λ m. Found k a (view_of m disk)) named (found_as k a (noted_by a (acked tag n extent) (acks k) (bytes_eq key k) refl is)));
    notes = now.notes.2;
  };
}
  where
    now : Keeps acks entries agenda.name (Acknowledge key tag n extent ∷ todo) (view_of agenda.name disk)
    now = subst (λ t. Keeps acks entries agenda.name t (view_of agenda.name disk)) first (h.going isnt)

    found_as : (k : Bytes) (a : Acknowledged) → ((key ≡ k) × (acked tag n extent ≡ a)) ⊎ (acks k ≡ Some a) → Found k a (view_of (name_of k) disk)
    found_as k a (inl is) = subst (λ b. Found k b (view_of (name_of k) disk)) is.1 (subst (λ m. Found m (acked tag n extent) (view_of (name_of m) disk)) is.0 (subst (λ m. Found key (acked tag n extent) (view_of m disk)) (sym own) now.notes.0))
    found_as k a (inr was) = h.found k a was

    known_as : (k : Bytes) (a : Acknowledged) → ((key ≡ k) × (acked tag n extent ≡ a)) ⊎ (acks k ≡ Some a) → IsKnown closed entries (name_of k)
    known_as k a (inl is) = inr (subst (HasEntry entries) (sym own ∙ ap name_of is.0) now.notes.1)
    known_as k a (inr was) = h.known k a was

-- what is acknowledged no more
pub found_fewer : {acks : Acks} {disk : Log} {agenda : Agenda} {closed : List Bytes} {entries : List Entry} (fewer : Acks) → ((key : Bytes) (a : Acknowledged) → fewer key ≡ Some a → acks key ≡ Some a)
    → FoundOf acks disk agenda None closed entries → FoundOf fewer disk agenda None closed entries
found_fewer fewer was h = record {
  found = λ key a is. h.found key a (was key a is);
  known = λ key a is. h.known key a (was key a is);
  going = λ isnt. let k = h.going isnt in record { stays = λ key a is named. k.stays key a (was key a is) named; notes = k.notes };
}

gone_by : (key k : Bytes) (a : Acknowledged) (was : Option Acknowledged) (same : Bool) → bytes_eq key k ≡ same → (elim same as (λ c. Option Acknowledged) [ true ↦ None | false ↦ was ]) ≡ Some a → (bytes_eq key k ≡ false) × (was ≡ Some a)
gone_by key k a was true same is = absurd (cc is)
gone_by key k a was false same is = (same, is)

pub gone_was : (acks : Acks) (key k : Bytes) (a : Acknowledged) → noted_of k (acks k) (Noted (Gone key)) ≡ Some a → (bytes_eq key k ≡ false) × (acks k ≡ Some a)
gone_was acks key k a is = gone_by key k a (acks k) (bytes_eq key k) refl is
