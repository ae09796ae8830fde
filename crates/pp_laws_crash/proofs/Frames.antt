-- What of a state stays as it is while rows, clients, connections and exchanges change: what the disk is about.
use Rattle.std.proofs.Common.{map, ◌≡◌, ◌⊎◌, refl, ℕ, Bool, true, false, List, [], ◌∷◌, Option, Some, None, Result, Ok, Err, inl, inr, ap}
use Rattle.pp_conf.specs.Conf.{Settings}
use Rattle.pp_framing.specs.Body.{Outcome, Done, Going, Bad}
use Rattle.pp_valid.specs.declared.version.Version.{Version}
use Rattle.pp_world.specs.Log.{Log}
use Rattle.pp_world.specs.declared.op.DiskOp.{DiskOp}
use Rattle.std.specs.Prelude.{find, is_some}
use Rattle.pp_law.specs.Lists.{Bytes, change, has_text}
use Rattle.pp_law.specs.Requests.{Front, Parsed, NoHeadYet, NoHead as NoFront, IsRequest}
use Rattle.pp_law.specs.State.{State, Phase, Before, IsWoken, IsConfigured, IsRooted, IsListed, IsListening, IsStuck, Awaiting, Handling, Evicting, Keeping, Deciding, Following, Connecting, DecidingAgain, Owed, Free, Sent, Entry, Agenda, Aim, Through, Own, Filling}
use Rattle.pp_law.specs.Table.{is_entry_of}
use Rattle.pp_laws.specs.Origin.{IsBackPart}
use Rattle.pp_laws.specs.Runs.{IsIn}

-- a life recovers what it found, up to where it listens
abbrev pub recovers : Phase → Bool
recovers Before = false
recovers IsWoken = true
recovers IsConfigured = true
recovers IsRooted = true
recovers IsListed = true
recovers IsListening = false
recovers IsStuck = true
recovers Awaiting = false
recovers Handling = false
recovers Evicting = false
recovers Keeping = false
recovers Deciding = false
recovers Following = false
recovers Connecting = false
recovers DecidingAgain = false

-- and behind that it takes turns
abbrev pub takes_turns : Phase → Bool
takes_turns IsListening = false
takes_turns Before = false
takes_turns IsWoken = false
takes_turns IsConfigured = false
takes_turns IsRooted = false
takes_turns IsListed = false
takes_turns IsStuck = false
takes_turns Awaiting = true
takes_turns Handling = true
takes_turns Evicting = true
takes_turns Keeping = true
takes_turns Deciding = true
takes_turns Following = true
takes_turns Connecting = true
takes_turns DecidingAgain = true

-- before the first turn nothing is owed to an event
abbrev pub OwedIn : Phase → Owed → Type 0
OwedIn phase owed = takes_turns phase ≡ false → owed ≡ Free

-- it was an entry, and is no less stale
pub record WasEntry (old : List Entry) (e : Entry) : Type 0 where
  pub was : Entry
  pub there : IsIn was old
  pub name : e.name ≡ was.name
  pub key : e.key ≡ was.key
  pub version : e.version ≡ was.version
  pub fresh : e.is_stale ≡ false → e ≡ was

abbrev pub WereEntries : List Entry → List Entry → Type 0
WereEntries old entries = (e : Entry) → IsIn e entries → WasEntry old e

-- it still is one
pub record StaysEntry (entries : List Entry) (was : Entry) : Type 0 where
  pub now : Entry
  pub there : IsIn now entries
  pub name : now.name ≡ was.name
  pub key : now.key ≡ was.key
  pub version : now.version ≡ was.version
  pub extent : now.extent ≡ was.extent

abbrev pub StayEntries : List Entry → List Entry → Type 0
StayEntries old entries = (e : Entry) → IsIn e old → StaysEntry entries e

-- but for whether it is stale
abbrev pub unstaled : Entry → Entry
unstaled e = record e { is_stale = false }

-- of each of these keys there is one
abbrev pub AreThere : List Bytes → List Entry → Type 0
AreThere keys entries = (key : Bytes) → has_text key keys ≡ true → is_some (find (is_entry_of key) entries) ≡ true

pub record Parts (o : State) (disk : Log) (agenda : Agenda) (under_way : Option DiskOp) (closed : List Bytes) (acknowledged : List Entry) (settings : Settings) (phase : Phase) (owed : Owed) (entries : List Entry) (sent : List Sent) (displaced : List Bytes) : Type 0 where
  pub disk_is : disk ≡ o.disk
  pub agenda_is : agenda ≡ o.agenda
  pub under_way_is : under_way ≡ o.under_way
  pub closed_is : closed ≡ o.closed_names
  pub acknowledged_is : acknowledged ≡ o.acknowledged
  pub settings_is : settings ≡ o.settings
  pub recovers_is : recovers phase ≡ recovers o.phase
  pub moved : (phase ≡ o.phase) ⊎ (takes_turns phase ≡ true)
  pub owed_in : OwedIn phase owed
  pub were : WereEntries o.entries entries
  pub stay : StayEntries o.entries entries
  pub same : map unstaled entries ≡ map unstaled o.entries
  -- of a key whose name another took
  pub there : AreThere o.displaced o.entries → AreThere displaced entries
  pub more : (key : Bytes) → has_text key o.displaced ≡ true → has_text key displaced ≡ true
  pub grew : IsBackPart o.sent sent

abbrev pub PartsOf : State → State → Type 0
PartsOf o s = Parts o s.disk s.agenda s.under_way s.closed_names s.acknowledged s.settings s.phase s.owed s.entries s.sent s.displaced

-- this state is as that one was
pub data Kept (o s : State) : Type 0 where
  kept : PartsOf o s → Kept o s

pub parts_of : {o s : State} → Kept o s → PartsOf o s
parts_of (kept parts) = parts

were_same : (e : Entry) (es : List Entry) → IsIn e es → WasEntry es e
were_same e es i = record { was = e; there = i; name = refl; key = refl; version = refl; fresh = λ f. refl }

stay_same : (e : Entry) (es : List Entry) → IsIn e es → StaysEntry es e
stay_same e es i = record { now = e; there = i; name = refl; key = refl; version = refl; extent = refl }

pub kept_self : (s : State) → OwedIn s.phase s.owed → Kept s s
kept_self s owed = kept (record {
  disk_is = refl;
  agenda_is = refl;
  under_way_is = refl;
  closed_is = refl;
  acknowledged_is = refl;
  settings_is = refl;
  recovers_is = refl;
  moved = inl refl;
  owed_in = owed;
  were = λ e i. were_same e s.entries i;
  stay = λ e i. stay_same e s.entries i;
  same = refl;
  there = λ are. are;
  more = λ key has. has;
  grew = ([], refl);
})

-- ---- what becomes of entries, and of what was sent

-- what `change` makes of an element
abbrev pub now_at : (Entry → Bool) → (Entry → Entry) → Entry → Entry
now_at p f e = elim (p e) [ true ↦ f e | false ↦ e ]

pub in_changed : (p : Entry → Bool) (f : Entry → Entry) (es : List Entry) (e : Entry) → IsIn e es → IsIn (now_at p f e) (change p f es)
in_changed p f [] e i = absurd i
in_changed p f (x ∷ es) e (inl eq) = inl (ap (now_at p f) eq)
in_changed p f (x ∷ es) e (inr i) = inr (in_changed p f es e i)

-- ---- by cases

pub when : {o : State} (t : Bool) {x y : State} → Kept o x → Kept o y → Kept o (elim t as (λ c. State) [ true ↦ x | false ↦ y ])
when true hx hy = hx
when false hx hy = hy

pub when_so : {o : State} (t : Bool) {x y : State} → (t ≡ true → Kept o x) → (t ≡ false → Kept o y) → Kept o (elim t as (λ c. State) [ true ↦ x | false ↦ y ])
when_so true hx hy = hx refl
when_so false hx hy = hy refl

pub each_of : {A : Type 0} {o : State} (x : Option A) {u : State} {v : A → State} → Kept o u → ((a : A) → Kept o (v a)) → Kept o (elim x as (λ c. State) [ None ↦ u | Some a ↦ v a ])
each_of None hx hy = hx
each_of (Some a) hx hy = hy a

pub by_aim_of : {o : State} (a : Aim) {x y : State} {z : Version → ℕ → ℕ → State} → Kept o x → Kept o y → ((v : Version) (from to : ℕ) → Kept o (z v from to))
    → Kept o (elim a as (λ c. State) [ Through ↦ x | Own ↦ y | Filling v from to ↦ z v from to ])
by_aim_of Through hx hy hz = hx
by_aim_of Own hx hy hz = hy
by_aim_of (Filling v from to) hx hy hz = hz v from to

pub by_outcome : {o : State} (w : Outcome) {x : Bytes → State} {y z : State} → ((rest : Bytes) → Kept o (x rest)) → Kept o y → Kept o z
    → Kept o (elim w as (λ c. State) [ Done rest ↦ x rest | Going ↦ y | Bad ↦ z ])
by_outcome (Done rest) hx hy hz = hx rest
by_outcome Going hx hy hz = hy
by_outcome Bad hx hy hz = hz

pub by_front : {o : State} (f : Front) {x : State} {y : ℕ → State} {z : Parsed → State} → Kept o x → ((n : ℕ) → Kept o (y n)) → ((r : Parsed) → Kept o (z r))
    → Kept o (elim f as (λ c. State) [ NoHeadYet ↦ x | NoFront n ↦ y n | IsRequest r ↦ z r ])
by_front NoHeadYet hx hy hz = hx
by_front (NoFront n) hx hy hz = hy n
by_front (IsRequest r) hx hy hz = hz r

pub by_result : {A E : Type 0} {o : State} (r : Result A E) {x : A → State} {y : E → State} → ((a : A) → Kept o (x a)) → ((e : E) → Kept o (y e))
    → Kept o (elim r as (λ c. State) [ Ok a ↦ x a | Err e ↦ y e ])
by_result (Ok a) hx hy = hx a
by_result (Err e) hx hy = hy e
