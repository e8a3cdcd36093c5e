-- `write_front::Source::put_chains` meets its contract: a part of the image becomes the section.
use native.Mathlib.Omega.{arith}
use Prim.Native.Nat.{◌*◌}
use mathlib.Core.Path.{refl, sym, ap, ◌∙◌}
use Rattle.lowering.specs.Limits.{chain_width}
use Rattle.write_front.proofs.RoomLaws.{few-steps, part_length}
use Rattle.write_front.proofs.PutsLaws.{puts-part, puts_none}
use Rattle.write_front.proofs.FrontLaws.{chains-few, chain-keys-long, chain-rows, chains-written}
use Rattle.write_front.proofs.Source.put_chains.Goals as goal

pub returns-then-keys-gt-MAX_CHAINS : goal.returns-then-keys-gt-MAX_CHAINS
returns-then-keys-gt-MAX_CHAINS c =
    λ m h. absurd (chains-few h (omega (arith, c.if-keys-gt-MAX_CHAINS.true, chain-keys-long h (c.chain_keys-keys.ensures m h))))

pub returns-then-beyond : goal.returns-then-beyond
returns-then-beyond c =
    λ m h. puts_none _ _ _ (omega (
      arith,
      c.beyond.ensures.beyond c.if-beyond.true,
      chain-rows h,
      chain-keys-long h (c.chain_keys-keys.ensures m h),
    ))

pub overflow_add-e : goal.overflow_add-e
overflow_add-e c = omega (arith, c.beyond.ensures.within c.if-beyond.false)

pub chains-requires : goal.chains-requires
chains-requires c = record {
  out_len = part_length _ _ _ (c.beyond.ensures.within c.if-beyond.false);
  js_bound = few-steps _ _ _ refl c.if-keys-gt-MAX_CHAINS.false;
}

pub returns : goal.returns
returns c =
    λ m h.
    let keys = c.chain_keys-keys.ensures m h in
    puts-part _ _ _ _ _ (chains-written h c.names.ensures.sheet (c.names.ensures.held m h) keys refl c.chains.ensures)
    (chain-rows h ∙ ap (λ i. chain_width * i) (sym (chain-keys-long h keys)))
