use Rattle.std.proofs.Common.{◌≡◌, ℕ, ◌<◌, ◌≤◌, length, map, All, refl, sym, ap, subst, ◌∙◌, arith}
use Rattle.std.specs.List.{AllZip}
use Rattle.std.proofs.lemmas.List.{length-map}
use Rattle.rg_theory.specs.System.{states}
use Rattle.rg_theory.specs.Limits.{most_states}
use Rattle.rg_product.specs.Blocks.{AreBlocks}
use Rattle.rg_product.specs.Product.{tuple_of}
use Rattle.rg_product.specs.Factoring.{AreReachedBy, AreParted, IsFactoring, Factoring.fewer}
use Rattle.rg_product.specs.Ends.{Splits, AreNumbers}
use Rattle.rg_factor.specs.Blocks.{blocks_at}
use Rattle.rg_factor.specs.Numbers.{AreAmong}
use Rattle.rg_factor.specs.Sizes.{product_of}
use Rattle.rg_factor.proofs.Blocking.{blocks_are}
use Rattle.rg_factor.proofs.Sizing.{choices_are}
use Rattle.rg_factor.proofs.Partings.{one_block_comes, fewer_comes, sizes_some, sizes_few, vectors_few, ends_among}
use Rattle.rg_factor.proofs.parting.parting_of.Goals as goal

pub returns-then-len-lt2 : goal.returns-then-len-lt2
returns-then-len-lt2 c =
    let two = c.if-len-lt2.true in
    let len = c.len.ensures in
    let items = c.in_ok-blocks.blocks.ok.0 in
    let n = length-map c.in_ok-blocks.blocks.items (λ b. b.items) in
    let m = ap length (c.in_ok-blocks.ensures ∙ ap blocks_at c.deref-2.ensures.value) in
    one_block_comes c.args.lts.now c.in_ok-leasts.field-0.leasts.items c.in_ok-leasts.field-0.squares.items c.in_ok-leasts.ensures (omega arith)

pub sizes_of-requires : goal.sizes_of-requires
sizes_of-requires c =
    let zip : AllZip (AreReachedBy c.args.lts.now) (map (λ b. b.items) c.in_ok-blocks.blocks.items) (map (λ r. r.items) c.in_ok-reached.reached.items) =
    subst (λ bs. AllZip (AreReachedBy c.args.lts.now) bs (map (λ r. r.items) c.in_ok-reached.reached.items))
    (ap blocks_at c.deref-3.ensures.value ∙ sym (c.in_ok-blocks.ensures ∙ ap blocks_at c.deref-2.ensures.value)) c.in_ok-reached.ensures in
    subst (All (λ r. length r.items ≤ most_states)) (sym c.deref-4.ensures.value)
    (vectors_few c.in_ok-reached.reached.items
    (sizes_few c.args.lts.now c.is_well_formed.ensures.in_range c.is_well_formed.ensures.few_states
    (map (λ b. b.items) c.in_ok-blocks.blocks.items) (map (λ r. r.items) c.in_ok-reached.reached.items) zip))

pub make-requires-clause-some_each : goal.make-requires-clause-some_each
make-requires-clause-some_each c =
    let zip : AllZip (AreReachedBy c.args.lts.now) (map (λ b. b.items) c.in_ok-blocks.blocks.items) (map (λ r. r.items) c.in_ok-reached.reached.items) =
    subst (λ bs. AllZip (AreReachedBy c.args.lts.now) bs (map (λ r. r.items) c.in_ok-reached.reached.items))
    (ap blocks_at c.deref-3.ensures.value ∙ sym (c.in_ok-blocks.ensures ∙ ap blocks_at c.deref-2.ensures.value)) c.in_ok-reached.ensures in
    subst (All (λ n. 0 < n)) (sym (c.deref-5.ensures.value ∙ c.in_ok-sizes.ensures
    ∙ ap (λ xs. map length (map (λ r. r.items) xs)) c.deref-4.ensures.value))
    (sizes_some c.args.lts.now (map (λ b. b.items) c.in_ok-blocks.blocks.items) (map (λ r. r.items) c.in_ok-reached.reached.items) zip)

pub make-requires-clause-few_each : goal.make-requires-clause-few_each
make-requires-clause-few_each c =
    let zip : AllZip (AreReachedBy c.args.lts.now) (map (λ b. b.items) c.in_ok-blocks.blocks.items) (map (λ r. r.items) c.in_ok-reached.reached.items) =
    subst (λ bs. AllZip (AreReachedBy c.args.lts.now) bs (map (λ r. r.items) c.in_ok-reached.reached.items))
    (ap blocks_at c.deref-3.ensures.value ∙ sym (c.in_ok-blocks.ensures ∙ ap blocks_at c.deref-2.ensures.value)) c.in_ok-reached.ensures in
    subst (All (λ n. n ≤ most_states)) (sym (c.deref-5.ensures.value ∙ c.in_ok-sizes.ensures ∙ ap (λ xs. map length (map (λ r. r.items) xs)) c.deref-4.ensures.value))
    (sizes_few c.args.lts.now c.is_well_formed.ensures.in_range c.is_well_formed.ensures.few_states (map (λ b. b.items) c.in_ok-blocks.blocks.items)
    (map (λ r. r.items) c.in_ok-reached.reached.items) zip)

pub returns-then-not-make : goal.returns-then-not-make
returns-then-not-make c =
    let zip : AllZip (AreReachedBy c.args.lts.now) (map (λ b. b.items) c.in_ok-blocks.blocks.items) (map (λ r. r.items) c.in_ok-reached.reached.items) =
    subst (λ bs. AllZip (AreReachedBy c.args.lts.now) bs (map (λ r. r.items) c.in_ok-reached.reached.items))
    (ap blocks_at c.deref-3.ensures.value ∙ sym (c.in_ok-blocks.ensures ∙ ap blocks_at c.deref-2.ensures.value)) c.in_ok-reached.ensures in
    let blocks : AreBlocks c.args.lts.now (map (λ b. b.items) c.in_ok-blocks.blocks.items) =
    subst (AreBlocks c.args.lts.now) (sym (c.in_ok-blocks.ensures ∙ ap blocks_at c.deref-2.ensures.value))
    (blocks_are c.args.lts.now c.in_ok-leasts.field-0.leasts.items c.in_ok-leasts.field-0.squares.items c.in_ok-leasts.ensures) in
    let two = c.if-len-lt2.false in
    let len = c.len.ensures in
    let items = c.in_ok-blocks.blocks.ok.0 in
    let n = length-map c.in_ok-blocks.blocks.items (λ b. b.items) in
    let parted : AreParted c.args.lts.now (map (λ b. b.items) c.in_ok-blocks.blocks.items) (map (λ r. r.items) c.in_ok-reached.reached.items) =
    record { are_blocks = blocks; several = omega arith; are_reached = zip } in
    let sizes : c.deref-5.result.now ≡ map length (map (λ r. r.items) c.in_ok-reached.reached.items) =
    (c.deref-5.ensures.value ∙ c.in_ok-sizes.ensures ∙ ap (λ xs. map length (map (λ r. r.items) xs)) c.deref-4.ensures.value) in
    subst (λ xs. IsFactoring c.args.lts.now (fewer xs)) (sym (sym c.deref-5.ensures.value ∙ sizes))
    (fewer_comes c.args.lts.now (map (λ b. b.items) c.in_ok-blocks.blocks.items) (map (λ r. r.items) c.in_ok-reached.reached.items) parted
    (λ e. c.if-not-make.ensures.no refl (ap product_of sizes ∙ sym (choices_are (map (λ r. r.items) c.in_ok-reached.reached.items)) ∙ e ∙ sym c.states.ensures.value)))

pub ends_of-requires-clause-blocks : goal.ends_of-requires-clause-blocks
ends_of-requires-clause-blocks c =
    let blocks : AreBlocks c.args.lts.now (map (λ b. b.items) c.in_ok-blocks.blocks.items) =
    subst (AreBlocks c.args.lts.now) (sym (c.in_ok-blocks.ensures ∙ ap blocks_at c.deref-2.ensures.value))
    (blocks_are c.args.lts.now c.in_ok-leasts.field-0.leasts.items c.in_ok-leasts.field-0.squares.items c.in_ok-leasts.ensures) in
    subst (λ xs. AreBlocks c.args.lts.now (map (λ b. b.items) xs)) (sym c.deref-7.ensures.value) blocks

pub tuples_of-requires-clause-few : goal.tuples_of-requires-clause-few
tuples_of-requires-clause-few c =
    let zip : AllZip (AreReachedBy c.args.lts.now) (map (λ b. b.items) c.in_ok-blocks.blocks.items) (map (λ r. r.items) c.in_ok-reached.reached.items) =
    subst (λ bs. AllZip (AreReachedBy c.args.lts.now) bs (map (λ r. r.items) c.in_ok-reached.reached.items))
    (ap blocks_at c.deref-3.ensures.value ∙ sym (c.in_ok-blocks.ensures ∙ ap blocks_at c.deref-2.ensures.value)) c.in_ok-reached.ensures in
    subst (All (λ r. length r.items ≤ most_states)) (sym c.deref-8.ensures.value)
    (vectors_few c.in_ok-reached.reached.items
    (sizes_few c.args.lts.now c.is_well_formed.ensures.in_range c.is_well_formed.ensures.few_states
    (map (λ b. b.items) c.in_ok-blocks.blocks.items) (map (λ r. r.items) c.in_ok-reached.reached.items) zip))

pub tuples_of-requires-clause-among : goal.tuples_of-requires-clause-among
tuples_of-requires-clause-among c =
    let lts = c.args.lts.now in
    let zip : AllZip (AreReachedBy c.args.lts.now) (map (λ b. b.items) c.in_ok-blocks.blocks.items) (map (λ r. r.items) c.in_ok-reached.reached.items) =
    subst (λ bs. AllZip (AreReachedBy c.args.lts.now) bs (map (λ r. r.items) c.in_ok-reached.reached.items))
    (ap blocks_at c.deref-3.ensures.value ∙ sym (c.in_ok-blocks.ensures ∙ ap blocks_at c.deref-2.ensures.value)) c.in_ok-reached.ensures in
    let splits : (s : ℕ) → s < states lts → Splits lts (map (λ b. b.items) c.in_ok-blocks.blocks.items) s (tuple_of (map (λ e. e.items) c.in_ok-ends.ends.items) s) =
    subst (λ xs. (s : ℕ) → s < states lts → Splits lts (map (λ b. b.items) xs) s (tuple_of (map (λ e. e.items) c.in_ok-ends.ends.items) s)) c.deref-7.ensures.value c.in_ok-ends.ensures.splits in
    let long = c.in_ok-ends.ensures.long in
    let same = ap length c.deref-9.ensures.value in
    λ s lt.
    (subst (λ xs. AreAmong (map (λ r. r.items) xs) (tuple_of (map (λ e. e.items) c.deref-9.result.now) s)) (sym c.deref-8.ensures.value)
    (subst (λ xs. AreAmong (map (λ r. r.items) c.in_ok-reached.reached.items) (tuple_of (map (λ e. e.items) xs) s)) (sym c.deref-9.ensures.value)
    (ends_among lts (map (λ b. b.items) c.in_ok-blocks.blocks.items) (map (λ r. r.items) c.in_ok-reached.reached.items) s
    (tuple_of (map (λ e. e.items) c.in_ok-ends.ends.items) s) zip (splits s (omega arith)))))

pub returns : goal.returns
returns c =
    let lts = c.args.lts.now in
    let zip : AllZip (AreReachedBy c.args.lts.now) (map (λ b. b.items) c.in_ok-blocks.blocks.items) (map (λ r. r.items) c.in_ok-reached.reached.items) =
    subst (λ bs. AllZip (AreReachedBy c.args.lts.now) bs (map (λ r. r.items) c.in_ok-reached.reached.items))
    (ap blocks_at c.deref-3.ensures.value ∙ sym (c.in_ok-blocks.ensures ∙ ap blocks_at c.deref-2.ensures.value)) c.in_ok-reached.ensures in
    let blocks : AreBlocks c.args.lts.now (map (λ b. b.items) c.in_ok-blocks.blocks.items) =
    subst (AreBlocks c.args.lts.now) (sym (c.in_ok-blocks.ensures ∙ ap blocks_at c.deref-2.ensures.value))
    (blocks_are c.args.lts.now c.in_ok-leasts.field-0.leasts.items c.in_ok-leasts.field-0.squares.items c.in_ok-leasts.ensures) in
    let two = c.if-len-lt2.false in
    let len = c.len.ensures in
    let items = c.in_ok-blocks.blocks.ok.0 in
    let n = length-map c.in_ok-blocks.blocks.items (λ b. b.items) in
    let parted : AreParted c.args.lts.now (map (λ b. b.items) c.in_ok-blocks.blocks.items) (map (λ r. r.items) c.in_ok-reached.reached.items) =
    record { are_blocks = blocks; several = omega arith; are_reached = zip } in
    let sizes : c.deref-5.result.now ≡ map length (map (λ r. r.items) c.in_ok-reached.reached.items) =
    (c.deref-5.ensures.value ∙ c.in_ok-sizes.ensures ∙ ap (λ xs. map length (map (λ r. r.items) xs)) c.deref-4.ensures.value) in
    let splits : (s : ℕ) → s < states lts → Splits lts (map (λ b. b.items) c.in_ok-blocks.blocks.items) s (tuple_of (map (λ e. e.items) c.in_ok-ends.ends.items) s) =
    subst (λ xs. (s : ℕ) → s < states lts → Splits lts (map (λ b. b.items) xs) s (tuple_of (map (λ e. e.items) c.in_ok-ends.ends.items) s)) c.deref-7.ensures.value c.in_ok-ends.ensures.splits in
    let long = c.in_ok-ends.ensures.long in
    let same = ap length c.deref-9.ensures.value in
    let numbers : (s : ℕ) → s < length c.in_ok-ends.ends.items
    → AreNumbers (map (λ r. r.items) c.in_ok-reached.reached.items) (tuple_of (map (λ e. e.items) c.in_ok-ends.ends.items) s)
    (tuple_of (map (λ t. t.items) c.in_ok-tuples.tuples.items) s) =
    subst (λ xs. (s : ℕ) → s < length xs → AreNumbers (map (λ r. r.items) c.in_ok-reached.reached.items) (tuple_of (map (λ e. e.items) xs) s)
    (tuple_of (map (λ t. t.items) c.in_ok-tuples.tuples.items) s)) c.deref-9.ensures.value
    (subst (λ xs. (s : ℕ) → s < length c.deref-9.result.now
    → AreNumbers (map (λ r. r.items) xs) (tuple_of (map (λ e. e.items) c.deref-9.result.now) s)
    (tuple_of (map (λ t. t.items) c.in_ok-tuples.tuples.items) s)) c.deref-8.ensures.value c.in_ok-tuples.ensures.numbers) in (
      map (λ e. e.items) c.in_ok-ends.ends.items,
      record {
        parted = parted;
        many = choices_are (map (λ r. r.items) c.in_ok-reached.reached.items) ∙ sym (ap product_of sizes) ∙ c.if-not-make.ensures.yes refl ∙ c.states.ensures.value;
        end_each = length-map c.in_ok-ends.ends.items (λ e. e.items) ∙ long;
        one_each = length-map c.in_ok-tuples.tuples.items (λ t. t.items) ∙ c.in_ok-tuples.ensures.long ∙ same ∙ long;
        splits = splits;
        numbers = λ s lt. numbers s (omega arith);
      },
    )
