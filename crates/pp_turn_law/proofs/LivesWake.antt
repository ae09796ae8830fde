-- Whence a life wakes.
use Rattle.std.proofs.Common.{◌≡◌, ◌≤◌, refl, ℕ, true, List, [], map, arith}
use Rattle.pp_joints_law.proofs.OpenedCrash.{crashes_may}
use Rattle.pp_law.specs.Opening.{is_first_image}
use Rattle.pp_law.specs.Permits.{IsPermitted, is_permitted, permits}
use Rattle.pp_law.specs.State.{Term, start}
use Rattle.pp_obeys.proofs.Silent.{both_hold}
use Rattle.pp_world.specs.Connections.{top_of}
use Rattle.pp_world.specs.Disk.{is_rising}
use Rattle.pp_world.specs.Files.{Files}
use Rattle.pp_world.specs.declared.happening.Happening.TheVariants.{Woke}
use Rattle.pp_turn_law.proofs.LeftLogs.{left as disk_left}
use Rattle.pp_turn_law.specs.Waking.{FirstLivesWake, LaterLivesWake, first_life}

first_may : (terms : List Term) (files : Files) → is_rising (map (λ file. file.0) files) ≡ true → is_first_image files ≡ true → IsPermitted (start terms) (Woke files)
unfolding is_permitted permits
first_may terms files rising few = both_hold (is_rising (map (λ file. file.0) files)) (is_first_image files) rising few

no_number : (n : ℕ) → top_of [] ≤ n
unfolding top_of
no_number n = let none : top_of [] ≡ 0 = refl in omega (arith, none)

pub first_wakes : FirstLivesWake
first_wakes words later budget files x rising few told =
    let terms : List Term = (first_life words later x.faults).terms budget in
    record {
      state = start terms;
      obeys = record { lawful = tt; goes = record { phases = 0; done = tt; there = refl } };
      may = first_may terms files rising few;
      words_are = refl;
      faults = omega arith;
      told = told;
      top = no_number x.top;
      counted = omega arith;
    }

pub later_wake : LaterLivesWake
later_wake life budget words files before x s obeys later rising left words_are faults told top counted = record {
  state = s;
  obeys = obeys;
  may = crashes_may s files later rising ((disk_left (life.terms budget) s before files obeys).to left);
  words_are = words_are;
  faults = faults;
  told = told;
  top = top;
  counted = counted;
}
