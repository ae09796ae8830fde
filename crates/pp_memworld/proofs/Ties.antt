-- The table of open connections stays that of the log.
use Rattle.std.proofs.Common.{◌≡◌, ℕ, ◌+◌, ◌≤◌, Bool, true, cond, List, [], ◌∷◌, ◌++◌, length, refl, sym, ◌∙◌, ap, Option, Some, None, arith, length-append}
use Rattle.std.specs.Prelude.{◌==◌}
use Rattle.std.specs.BTreeMap.{BTreeMap}
use Rattle.std.specs.Map.{lookup}
use Rattle.std.specs.Ordering.{is_eq, nat_cmp}
use Rattle.pp_world.specs.declared.event.Side.{Side}
use Rattle.pp_world.specs.declared.event.Side.TheVariants.{Client, Origin}
use Rattle.pp_world.specs.declared.happening.Happening.{Happening}
use Rattle.pp_world.specs.declared.happening.Happening.TheVariants.{Woke, Opened, Dialled, Shut, Dropped}
use Rattle.pp_world.specs.Connections.{side_after, side_of, top_of, top_with}
use Rattle.pp_world.specs.Log.{Log}
use Rattle.pp_world.specs.Wire.{by_side}
use Rattle.pp_world.proofs.LogLemmas.{side_of-push, top_of-push}
use Rattle.pp_memworld.specs.Sides.{IsTied, KeepsConnections, side_at}

-- a life that begins
pub tied_new : {log' : Log} {sides : BTreeMap ℕ Side} {top : ℕ} (log : Log) (image : List (List ℕ × List ℕ)) → top_of log ≤ top → log' ≡ log ++ Woke image ∷ [] → sides.entries ≡ [] → IsTied true log' sides top 0
tied_new log image below begins empty = record {
  same_sides = λ is id. ap (lookup (λ k. is_eq (nat_cmp id k))) empty ∙ sym (ap (side_of id) begins ∙ side_of-push id log (Woke image));
  no_number_above = λ is. let same : top_of _ ≡ top_of log = ap top_of begins ∙ top_of-push log (Woke image) in omega (arith, same, below);
  faults_stand = λ is. omega arith;
}

-- one happening more, with the table, the top and the count that it leads to
pub tied_push : {told told' : Bool} {log log' : Log} {sides sides' : BTreeMap ℕ Side} {top top' faults faults' : ℕ} (h : Happening)
    → IsTied told log sides top faults
    → (told' ≡ true → told ≡ true) → (told' ≡ true → log' ≡ log ++ h ∷ [])
    → (told' ≡ true → (id : ℕ) → side_at sides' id ≡ side_after id (side_at sides id) h)
    → ((t : ℕ) → t ≤ top → top_with t h ≤ top')
    → faults' ≤ faults + 1
    → IsTied told' log' sides' top' faults'
tied_push {log = log} h tied was pushed placed numbered counted = record {
  same_sides = λ is id. placed is id ∙ ap (λ (s : Option Side). side_after id s h) (tied.same_sides (was is) id) ∙ sym (ap (side_of id) (pushed is) ∙ side_of-push id log h);
  no_number_above = λ is. let grown : top_of _ ≡ top_with (top_of log) h = ap top_of (pushed is) ∙ top_of-push log h in let below = numbered (top_of log) (tied.no_number_above (was is)) in omega (arith, grown, below);
  faults_stand = λ is. let more : length _ ≡ length log + 1 = ap length (pushed is) ∙ length-append log (h ∷ []) in let counts = tied.faults_stand (was is) in omega (arith, more, counts, counted);
}

-- a happening by which no connection comes or goes
pub tied_keep : {told told' : Bool} {log log' : Log} {sides : BTreeMap ℕ Side} {top faults faults' : ℕ} (h : Happening)
    → IsTied told log sides top faults → KeepsConnections h
    → (told' ≡ true → told ≡ true) → (told' ≡ true → log' ≡ log ++ h ∷ [])
    → faults' ≤ faults + 1
    → IsTied told' log' sides top faults'
tied_keep {sides = sides} {top = top} h tied keeps was pushed counted = tied_push h tied was pushed
    (λ is id. sym (keeps.side id (side_at sides id)))
    (λ t below. let same = keeps.top t in omega (arith, same, below))
    counted

-- a connection of a new number
pub tied_accept : {told placed told' : Bool} {log log' : Log} {sides sides' : BTreeMap ℕ Side} {top faults : ℕ} (id : ℕ)
    → IsTied told log sides top faults → id ≡ top + 1
    → (placed ≡ true → told ≡ true) → (placed ≡ true → (q : ℕ) → side_at sides' q ≡ cond (id == q) (Some Client) (side_at sides q))
    → (told' ≡ true → placed ≡ true) → (told' ≡ true → log' ≡ log ++ Opened id ∷ [])
    → IsTied told' log' sides' (top + 1) faults
tied_accept id tied next was placed goes pushed = tied_push (Opened id) tied (λ is. was (goes is)) pushed (λ is. placed (goes is)) (λ t below. grind arith) (omega arith)

pub tied_dial : {told placed told' : Bool} {log log' : Log} {sides sides' : BTreeMap ℕ Side} {top faults : ℕ} (id : ℕ) (host : List ℕ) (port : ℕ)
    → IsTied told log sides top faults → id ≡ top + 1
    → (placed ≡ true → told ≡ true) → (placed ≡ true → (q : ℕ) → side_at sides' q ≡ cond (id == q) (Some Origin) (side_at sides q))
    → (told' ≡ true → placed ≡ true) → (told' ≡ true → log' ≡ log ++ Dialled id host port ∷ [])
    → IsTied told' log' sides' (top + 1) faults
tied_dial id host port tied next was placed goes pushed = tied_push (Dialled id host port) tied (λ is. was (goes is)) pushed (λ is. placed (goes is)) (λ t below. grind arith) (omega arith)

closed_after : (side other : Option Side) (id q : ℕ) → side_after q other (by_side side (Shut id) (Dropped id)) ≡ cond (id == q) None other
closed_after None other id q = refl
closed_after (Some Client) other id q = refl
closed_after (Some Origin) other id q = refl

closed_top : (side : Option Side) (id top : ℕ) → top_with top (by_side side (Shut id) (Dropped id)) ≡ top
closed_top None id top = refl
closed_top (Some Client) id top = refl
closed_top (Some Origin) id top = refl

-- a connection that is closed
pub tied_close : {told told' : Bool} {log log' : Log} {sides sides' : BTreeMap ℕ Side} {top faults : ℕ} (id : ℕ) (side : Option Side)
    → IsTied told log sides top faults
    → ((q : ℕ) → side_at sides' q ≡ cond (id == q) None (side_at sides q))
    → (told' ≡ true → told ≡ true) → (told' ≡ true → log' ≡ log ++ by_side side (Shut id) (Dropped id) ∷ [])
    → IsTied told' log' sides' top faults
tied_close {sides = sides} id side tied removed was pushed = tied_push (by_side side (Shut id) (Dropped id)) tied was pushed
    (λ is q. removed q ∙ sym (closed_after side (side_at sides q) id q))
    (λ t below. let same = closed_top side id t in omega (arith, same, below))
    (omega arith)
