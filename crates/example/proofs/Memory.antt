-- The example is computed.
use Rattle.std.proofs.Common.{◌≡◌, ℕ, ◌<◌, [], refl, below_none, below_more}
use lib.Count.{ones}
use Rattle.rounds.specs.Rounds.{first_of}
use Rattle.home.specs.Sets.{members, members_from}
use Rattle.protocol.specs.Moments.{board_at}
use Rattle.protocol.specs.Counts.{same, same_read, sum_to}
use Rattle.example.specs.Memory.{answered, example, unwritten, after, PortalRun}
use Rattle.protocol.proofs.EdgeCases.{edges}

of_two : (P : ℕ → Type 0) → P 0 → P 1 → (n : ℕ) → n < 2 → P n
of_two P zeroth first = below_more P 1 (below_more P 0 (below_none P) zeroth) first

pub portal_run : PortalRun
unfolding first_of ones members members_from same same_read sum_to
portal_run = record {
  answers = refl;
  reached = edges.runs 64 example;
  at_work = refl;
  read_held = refl;
  read_deferred = refl;
  read_ready = refl;
  read_drawn = refl;
  read_finished = refl;
  write_held = refl;
  write_out = refl;
  write_stored = refl;
  write_reported = refl;
  word_given = refl;
  lined = refl;
  read_transit = refl;
  write_transit = refl;
  reply_transit = refl;
  quiet_unwritten = (of_two (λ n. (board_at (after unwritten) n).commands ≡ []) refl refl, refl);
  none_written = refl;
  still_deferred = refl;
  quiet_written = (of_two (λ n. (board_at (after answered) n).commands ≡ []) refl refl, refl);
  one_written = refl;
  none_deferred = refl;
}
