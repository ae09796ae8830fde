-- Which lives were given, and which instances clients follow, behind the final head of a response (RFC 2616, section 13.5.4; ours). Of the program
-- alone.
--
-- Each instance that comes into memory has the next life, and none that left it comes back. One that is followed stays there with its followers: where its key has another version it
-- is retired, and what leaves for another row is followed by nobody.
--
-- Where the premise comes from: no two instances have one slot, and each has a life that was given, wherever the cache shows the law's table
-- (ShowsTable of `pp_cache_law`).
use Rattle.std.specs.Prelude.{◌≡◌, ◌⊎◌, ◌<◌, ◌≤◌, ◌==◌, ℕ, true, false, count_by, List, [], ◌∷◌, Option, Some, ⊤}
use Rattle.pp_answers.specs.FinalHeads.{AnswersAsk}
use Rattle.pp_cache.specs.Memory.{Memory}
use Rattle.pp_flow.specs.declared.entry.Entry.{Entry}
use Rattle.pp_framing.specs.declared.body.BodyRule.{BodyRule}
use Rattle.pp_head.specs.Response.{Response}
use Rattle.pp_objects.specs.Instances.{Instance, in_slot, is_in_slot, is_there}
use Rattle.pp_objects.specs.declared.id.ObjectId.{ObjectId}
use Rattle.pp_state.specs.Ends.{Parts, parts}
use Rattle.pp_state.specs.declared.state.State.{State as Turn}
use Rattle.pp_answers_law.specs.Making.{AreGivenSeats}

-- ---- what is in memory

abbrev pub HaveGivenLives : ℕ → List Instance → Type 0
HaveGivenLives lives [] = ⊤
HaveGivenLives lives (i ∷ is) = (i.life < lives) × HaveGivenLives lives is

-- no two instances have one slot, and each has a life that was given
pub record GivesLives (m : Memory) : Type 0 where
  pub alone : (slot : ℕ) → count_by (is_in_slot slot) m.instances ≤ 1
  pub given : HaveGivenLives m.lives m.instances

-- the instance stands there still, with as many followers
pub record IsThereStill (i : Instance) (o : Option Instance) : Type 0 where
  pub now : Instance
  pub there : o ≡ Some now
  pub life : now.life ≡ i.life
  pub followers : now.followers ≡ i.followers

-- each that somebody follows
abbrev pub FollowedOnesStay : List Instance → List Instance → Type 0
FollowedOnesStay is js = (slot : ℕ) (i : Instance) → in_slot slot is ≡ Some i → (i.followers == 0) ≡ false → IsThereStill i (in_slot slot js)

-- each that is there was there before, or has a life that was given since
abbrev pub NoneComesBack : ℕ → List Instance → List Instance → Type 0
NoneComesBack lives is js = (id : ObjectId) → is_there id js ≡ true → (is_there id is ≡ true) ⊎ (lives ≤ id.life)

pub record KeepsLives (m n : Memory) : Type 0 where
  pub more : m.lives ≤ n.lives
  pub gives : GivesLives n
  pub followed : FollowedOnesStay m.instances n.instances
  pub back : NoneComesBack m.lives m.instances n.instances

-- ---- with what clients name

pub record KeepsNamedLives (p q : Parts) : Type 0 where
  pub memory : KeepsLives p.cache q.cache
  pub seats : AreGivenSeats p.cache.lives p.seats → AreGivenSeats q.cache.lives q.seats

abbrev pub LivesGoOn : Parts → Parts → Type 0
LivesGoOn p q = GivesLives p.cache → KeepsNamedLives p q

-- whatever was asked, and also where memory is refused
abbrev pub HeadsLetLivesGoOn : Type 0
HeadsLetLivesGoOn = (n : ℕ) (head : Response) (o : Option (Entry × BodyRule)) (p : Turn) (q : Parts) → AnswersAsk n head o p q → LivesGoOn (parts p) q
