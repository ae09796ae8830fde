-- What a lawful log keeps at each moment of a read of an origin, however much is read: as each is one from which the law got so many pieces more.
use Rattle.std.proofs.Common.{◌≡◌, ◌≤◌, ◌⊎◌, refl, sym, subst, ap, ap₂, ◌∙◌, ℕ, zero, suc, ◌+◌, Bool, false, length, List, [], Option, Some, None, inl, inr, le_refl, arith}
use Rattle.std.proofs.lemmas.List.{append-nil}
use Rattle.pp_cache.specs.Notes.{has_noted}
use Rattle.pp_law.specs.Lists.{Bytes}
use Rattle.pp_law.specs.Phases.{is_free}
use Rattle.pp_law.specs.Responses.{body_piece, got}
use Rattle.pp_law.specs.State.{State, Answer, Conn, Handling, Owed, Phase, ReadOf, Term}
use Rattle.pp_laws.proofs.Pieces.{got-sound}
use Rattle.pp_laws.proofs.Sound.{Sound}
use Rattle.pp_laws.specs.Runs.{IsIn}
use Rattle.pp_laws_answers.proofs.Firsts.{LinedBy, got_lined, lined_on}
use Rattle.pp_laws_bounds.proofs.Happenings.{from_now}
use Rattle.pp_laws_bounds.proofs.Kept.{Kept, facts_of as kept_facts}
use Rattle.pp_laws_bounds.proofs.Pieces.{got-kept}
use Rattle.pp_laws_bounds.proofs.Small.{Small, facts_of as small_facts}
use Rattle.pp_laws_bounds.proofs.SmallHappenings.{IsSmall}
use Rattle.pp_laws_bounds.proofs.SmallPieces.{got-small, plain}
use Rattle.pp_laws_brought.proofs.Got.{got-keeps as got-bound}
use Rattle.pp_laws_brought.proofs.Laws.{brought_on}
use Rattle.pp_laws_brought.proofs.View.{Holds as Brought}
use Rattle.pp_laws_coming.proofs.Facts.{Coming, Early}
use Rattle.pp_laws_coming.proofs.Got.{got-comes}
use Rattle.pp_laws_coming.proofs.Laws.{coming_on}
use Rattle.pp_laws_left.proofs.Keep.{AtEvent, owes}
use Rattle.pp_laws_left.proofs.Owned.{Owned, none_but}
use Rattle.pp_laws_left.proofs.OwnedCame.{got-owned}
use Rattle.pp_laws_left.proofs.OwnedEnds.{owned_on}
use Rattle.pp_laws_turn.proofs.Happenings.{got-turn}
use Rattle.pp_laws_turn.proofs.Kept.{Turn}
use Rattle.pp_laws_turn.proofs.Lifts.{kept_on, small_on, sound_on, turn_on}
use Rattle.pp_laws_turn.proofs.View.{Holds, facts_of, holds, is_late, view}
use Rattle.pp_obeys.specs.Obeys.{Obeys}
use Rattle.pp_origins.specs.Gots.{Both}
use Rattle.pp_reads_law.proofs.MomentsGot.{holds_at}
use Rattle.pp_reads_law.proofs.Amid.{pieces_got}
use Rattle.pp_reads_law.specs.Brings.{IsBehindHead, IsBehindPiece, IsMoment}
use Rattle.pp_store.specs.Kept.{KeptMap}
use Rattle.pp_world.specs.Log.{Log}
use Rattle.pp_comes_law.proofs.ComesOn.{comes_on}
use Rattle.pp_comes_law.proofs.GotPieces.{Comes, got_comes as got_goes}
use Rattle.pp_comes_law.proofs.KeptRows.{AreWhole, got_whole, whole_at}
use Rattle.pp_comes_law.proofs.LoneLate.{AreOwned}
use Rattle.pp_comes_law.proofs.LoneLaws.{lone_at_events}
use Rattle.pp_comes_law.proofs.LoneRead.{got-whose}
use Rattle.pp_comes_law.proofs.NotedEnds.{IsNoted, due_in, due_of}
use Rattle.pp_comes_law.proofs.NotedReads.{got_noted}
use Rattle.pp_comes_law.specs.Moments.{StandsToRead}

-- ---- what stays, however much is read

-- of each head that is awaited more is to come, and each body goes on; and of nobody's exchanges more is told while something is owed
pub record Goes (At : Type 0) (s : State) : Type 0 where
  pub comes : Comes s
  pub sound : Sound from_now s
  pub early : Holds Early s
  pub owned : Holds (Owned none_but At) s

pub record AtMoment (n : ℕ) (At : Type 0) (s : State) : Type 0 where
  pub goes : Goes At s
  pub turn : Holds Turn s
  pub kept : Kept [] s
  pub small : Small (plain false) s
  pub lined : LinedBy s
  pub brought : Brought None s
  -- of what is read on this connection
  pub noted : IsNoted due_of n s
  -- what goes alone and is not answered yet is somebody's
  pub lone : AreOwned s.exchanges
  pub whole : AreWhole s

got_on : {At : Type 0} (more n : ℕ) (bytes : Bytes) (s : State) → At → Goes At s → Goes ⊥ (got more n bytes s)
got_on more n bytes s at g = record {
  comes = got_goes more n bytes s g.comes;
  sound = got-sound more n bytes s refl g.sound;
  early = got-comes more n bytes s refl g.sound g.early;
  owned = got-owned more n bytes s at (λ never. never) g.owned;
}

got_moment : {At : Type 0} (more n : ℕ) (bytes : Bytes) (s : State) → At → AtMoment n At s → AtMoment n ⊥ (got more n bytes s)
got_moment more n bytes s at m = record {
  goes = got_on more n bytes s at m.goes;
  turn = got-turn more n bytes s m.turn;
  kept = got-kept more n bytes s m.kept;
  small = got-small more n bytes s m.goes.sound m.kept m.small;
  lined = got_lined more n bytes s m.lined;
  brought = got-bound more n bytes s refl m.goes.sound m.brought;
  noted = got_noted more n bytes s refl m.goes.sound m.noted;
  lone = got-whose more n bytes s (facts_of m.goes.early).apart m.lone;
  whole = got_whole more n bytes s m.whole;
}

-- where none was forgotten, and no line has more than 8 asks
at_most : (o : Option Answer) (i : ℕ) → i ≤ 8 → 0 + due_in o i ≤ 16
at_most None i le = omega (arith, le)
at_most (Some a) i le = omega (arith, le)

none_noted : (n : ℕ) (s : State) → s.forgotten ≡ [] → ((k : Conn) → IsIn k s.conns → length k.line ≤ 8) → IsNoted due_of n s
none_noted n s forgotten short = record {
  most = 0;
  few = record {
    same = refl;
    before = s.instances;
    behind = [];
    is = sym (append-nil s.instances);
    few = le_refl 0;
    noted = subst (λ (keys : List Bytes). length keys ≤ 0) (sym forgotten) (le_refl 0);
    unnoted = λ x i on. ap (λ (keys : List Bytes). has_noted x.key keys) forgotten;
  };
  left = λ k i its. at_most k.answer (length k.line) (short k i);
}

pub goes_first : (terms : List Term) (s : State) (log : Log) → Obeys terms s log → s.phase ≡ Handling → Goes (AtEvent s.phase s.owed) s
goes_first terms s log obeys at = record {
  comes = comes_on terms s log obeys;
  sound = sound_on terms s log obeys;
  early = holds (subst (λ (p : Phase). Coming (is_late p) (view s)) at (facts_of (coming_on terms s log obeys)));
  owned = owned_on terms s log obeys;
}

pub at_first : (terms : List Term) (shelf : KeptMap) (n : ℕ) (s : State) (log : Log) → Obeys terms s log → s.phase ≡ Handling → AtEvent s.phase s.owed → s.is_stopped ≡ false → s.forgotten ≡ [] → StandsToRead shelf s → AtMoment n (AtEvent s.phase s.owed) s
at_first terms shelf n s log obeys at event going forgotten stands = record {
  goes = goes_first terms s log obeys at;
  turn = turn_on terms s log obeys;
  kept = kept_on terms s log obeys;
  small = let one : IsSmall s = small_on terms s log obeys in subst (λ (b : Bool). Small (plain b) s) (sym (small_facts one.1).said ∙ going) one.1;
  lined = lined_on terms s log obeys;
  brought = brought_on terms s log obeys;
  noted = none_noted n s forgotten (kept_facts (kept_on terms s log obeys)).lines.short;
  lone = facts_of (lone_at_events terms s log obeys event);
  whole = whole_at terms shelf s log obeys at stands;
}

pub owes_read : (s : State) (n : ℕ) → s.owed ≡ ReadOf n → AtEvent s.phase s.owed
owes_read s n is = owes (ap (λ (o : Owed). is_free o) is)

-- ---- each moment is one that the law gets to

module _ (name : Bytes) (shelf : KeptMap) (n : ℕ) (begins : Both) (from : State) (all : Bytes) where
  pub goes_at : {At : Type 0} (pieces : ℕ) (x : Both) (s : State) (bytes : Bytes) → At → Goes At from → IsMoment pieces name shelf n begins from all x s bytes → Goes ⊥ s
  goes_at pieces x s bytes at first is = holds_at name shelf n begins from all (λ t. Goes ⊥ t) (λ more. got_on more n all from at first) pieces x s bytes is

  pub at_moment : {At : Type 0} (pieces : ℕ) (x : Both) (s : State) (bytes : Bytes) → At → AtMoment n At from → IsMoment pieces name shelf n begins from all x s bytes → AtMoment n ⊥ s
  at_moment pieces x s bytes at first is = holds_at name shelf n begins from all (λ t. AtMoment n ⊥ t) (λ more. got_moment more n all from at first) pieces x s bytes is
