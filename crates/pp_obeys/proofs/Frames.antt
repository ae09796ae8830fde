-- What of a state stays as it is while rows, chunks, clients, connections and exchanges change.
use Rattle.std.proofs.Common.{◌≡◌, refl, ℕ, Bool, true, false, List, [], Option, Some, None, Result, Ok, Err}
use Rattle.pp_conf.specs.Conf.{Settings}
use Rattle.pp_framing.specs.Body.{Outcome, Done, Going, Bad}
use Rattle.pp_valid.specs.declared.version.Version.{Version}
use Rattle.pp_world.specs.Log.{Log}
use Rattle.pp_world.specs.declared.op.DiskOp.{DiskOp}
use Rattle.pp_law.specs.Lists.{Bytes}
use Rattle.pp_law.specs.Requests.{Front, Parsed, NoHeadYet, NoHead as NoFront, IsRequest}
use Rattle.pp_law.specs.State.{State, Phase, Owed, Sent, Entry, Agenda, Aim, Through, Own, Filling, Term}

pub record Frame : Type 0 where
  pub sent : List Sent
  pub acknowledged : List Entry
  pub disk : Log
  pub top : ℕ
  pub terms : List Term
  pub term : Term
  pub settings : Settings
  pub phase : Phase
  pub clock : ℕ
  pub has_ticked : Bool
  pub failures : ℕ
  pub closed_names : List Bytes
  pub under_way : Option DiskOp
  pub has_lost_draft : Bool
  pub is_ticked : Bool
  pub is_stopped : Bool
  pub owed : Owed
  pub has_made_room : Option ℕ
  pub agenda : Agenda

-- with what was sent, or without
abbrev pub frame : Bool → State → Frame
frame all s = record {
  sent = elim all [ true ↦ s.sent | false ↦ [] ];
  acknowledged = s.acknowledged;
  disk = s.disk;
  top = s.top;
  terms = s.terms;
  term = s.term;
  settings = s.settings;
  phase = s.phase;
  clock = s.clock;
  has_ticked = s.has_ticked;
  failures = s.failures;
  closed_names = s.closed_names;
  under_way = s.under_way;
  has_lost_draft = s.has_lost_draft;
  is_ticked = s.is_ticked;
  is_stopped = s.is_stopped;
  owed = s.owed;
  has_made_room = s.has_made_room;
  agenda = s.agenda;
}

pub data Stays (all : Bool) (o : Frame) (s : State) : Type 0 where
  stays : frame all s ≡ o → Stays all o s

pub frame_of : {all : Bool} {o : Frame} {s : State} → Stays all o s → frame all s ≡ o
frame_of (stays is) = is

-- ---- by cases

pub when : {all : Bool} {o : Frame} (t : Bool) {x y : State} → Stays all o x → Stays all o y → Stays all o (elim t as (λ c. State) [ true ↦ x | false ↦ y ])
when true hx hy = hx
when false hx hy = hy

pub when_so : {all : Bool} {o : Frame} (t : Bool) {x y : State} → (t ≡ true → Stays all o x) → (t ≡ false → Stays all o y) → Stays all o (elim t as (λ c. State) [ true ↦ x | false ↦ y ])
when_so true hx hy = hx refl
when_so false hx hy = hy refl

pub each_of : {A : Type 0} {all : Bool} {o : Frame} (x : Option A) {u : State} {v : A → State} → Stays all o u → ((a : A) → Stays all o (v a)) → Stays all o (elim x as (λ c. State) [ None ↦ u | Some a ↦ v a ])
each_of None hx hy = hx
each_of (Some a) hx hy = hy a

pub by_aim_of : {all : Bool} {o : Frame} (a : Aim) {x y : State} {z : Version → ℕ → ℕ → State} → Stays all o x → Stays all o y → ((v : Version) (from to : ℕ) → Stays all o (z v from to))
    → Stays all o (elim a as (λ c. State) [ Through ↦ x | Own ↦ y | Filling v from to ↦ z v from to ])
by_aim_of Through hx hy hz = hx
by_aim_of Own hx hy hz = hy
by_aim_of (Filling v from to) hx hy hz = hz v from to

pub by_outcome : {all : Bool} {o : Frame} (w : Outcome) {x : Bytes → State} {y z : State} → ((rest : Bytes) → Stays all o (x rest)) → Stays all o y → Stays all o z
    → Stays all o (elim w as (λ c. State) [ Done rest ↦ x rest | Going ↦ y | Bad ↦ z ])
by_outcome (Done rest) hx hy hz = hx rest
by_outcome Going hx hy hz = hy
by_outcome Bad hx hy hz = hz

pub by_front : {all : Bool} {o : Frame} (f : Front) {x : State} {y : ℕ → State} {z : Parsed → State} → Stays all o x → ((n : ℕ) → Stays all o (y n)) → ((r : Parsed) → Stays all o (z r))
    → Stays all o (elim f as (λ c. State) [ NoHeadYet ↦ x | NoFront n ↦ y n | IsRequest r ↦ z r ])
by_front NoHeadYet hx hy hz = hx
by_front (NoFront n) hx hy hz = hy n
by_front (IsRequest r) hx hy hz = hz r

pub by_result : {A E : Type 0} {all : Bool} {o : Frame} (r : Result A E) {x : A → State} {y : E → State} → ((a : A) → Stays all o (x a)) → ((e : E) → Stays all o (y e))
    → Stays all o (elim r as (λ c. State) [ Ok a ↦ x a | Err e ↦ y e ])
by_result (Ok a) hx hy = hx a
by_result (Err e) hx hy = hy e
