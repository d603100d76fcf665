use Rattle.std.proofs.Common.{◌≡◌, sym, ap, ◌∙◌, arith, rules}
use lib.Ieee.{binary32, to_bits, of_bits, div}
use lib.Ieee.Bits.{of_bits-to_bits}
use Rattle.protocol.proofs.EdgeCases as memory
use Rattle.array.proofs.Opened.{refusal}
use Rattle.array.proofs.edges.words_at_the_edges.Goals as goal

pub returns : goal.returns
unfolding to_bits of_bits div
returns c = record {
  minus_one = c.pack.ensures.word;
  one = c.pack-2.ensures.word;
  not_a_number = c.pack-3.ensures.word;
  other_not_a_number =
      refusal _ _ _ _ c.open.ensures
      (λ e g p.
      let stored : to_bits binary32 e ≡ 0x7FC00000 =
      ap (to_bits binary32) (sym (of_bits-to_bits binary32 e g) ∙ ap (of_bits binary32) p) in
      omega arith);
  array = search rules;
  not_an_array = refusal _ _ _ _ c.open-2.ensures (λ e g p. omega arith);
  memory = memory.edges;
}
