-- How a block grows by a context, and what its end says.
use Prim.Native.Nat.{ℕ, zero, suc, ◌+◌, ◌-◌, ◌^◌, ◌≤◌, ◌<◌, min}
use Rattle.std.proofs.Common.{add-one, arith, sym, ◌∙◌, length-append, length-take, length-drop, lt-ltb, le-ltb}
use Rattle.std.specs.Prelude.{◌≡◌, true, false, get_or, set, Some, None}
use Rattle.std.proofs.Math.Path.{refl, ap, subst}
use mathlib.Core.List.{List, [], ◌∷◌, ◌++◌, append_assoc, append-nil}
use Rattle.std.proofs.Math.ListN.{length}
use Rattle.std.proofs.Math.Seq.{get_or-set_same, get_or-set_other}
use Rattle.std.proofs.Math.Dec.{leb-suc-suc}
use Rattle.std.proofs.lemmas.Bool.{lt-leb}
use Rattle.util.specs.Cstr.{place, part_of}
use Rattle.util.specs.CstrLaws.{part_in}
use Rattle.util.specs.Buffer.{Put, put_end, put_into}
use Rattle.util.proofs.BufferLaws.{put_none, put_more, put_then, put_length}
use Rattle.util.specs.declared.cstr.Place.{Place}
use Rattle.parent.specs.Context.{Header, Context, context_read, name_read}
use Rattle.parent.specs.Chain.{chain}
use Rattle.refusal.specs.Refusal.{answered, refused}
use Rattle.qualified_name.specs.Name.{hop, hops}
use Rattle.qualified_name.proofs.NameLaws.{onward, measured, hops_written, at_start_lem, from_start}
use Rattle.qualified_name.specs.Walk.{deeper, before, hops_answer, filled, gathered, Block, Last}

-- ---- the names

part_length : (image : List ℕ) (p n : ℕ) → p + n ≤ length image → length (part_of image (place p n)) ≡ n
part_length image p n h = rw (part_in image p n h) (simp (length-take, length-drop) (omega arith))

-- a name that is stored at `k` is not among the first `n`
module _ (image : List ℕ) (names : List Place) (k : ℕ) (p : Place) where
  stored_past : (n : ℕ) → n ≤ k → gathered image (set names k p) n ≡ gathered image names n
  unfolding gathered
  stored_past zero h = refl
  stored_past (suc n) h = rw (get_or-set_other names k n p (place 0 0) (λ e. omega arith), stored_past n (omega arith))

  -- and the first of the hops then
  stored : k < length names → gathered image (set names k p) (suc k) ≡ (part_of image p ++ (46 ∷ [])) ++ gathered image names k
  unfolding gathered
  stored h = rw (get_or-set_same names k p (place 0 0) h, stored_past k (omega arith))

-- the first hop of a block
next_name : (image : List ℕ) (names : List Place) (k : ℕ) (p : List ℕ) → p ≡ part_of image (get_or names (k - 1) (place 0 0)) → 0 < k
    → gathered image names k ≡ (p ++ (46 ∷ [])) ++ gathered image names (k - 1)
unfolding gathered
next_name image names zero p e h = absurd (omega arith)
next_name image names (suc k) p e h = let z : suc k - 1 ≡ k = omega arith in rw (e, z)

-- ---- one context of the chain

module _ (image segments : List ℕ) (left a : ℕ) where
  chain_ends : None ≡ context_read image segments a → chain image segments (suc left) a ≡ []
  unfolding chain
  chain_ends e = rw (chain, ← e)

  chain_goes_on : (c : Context) → Some c ≡ context_read image segments a → chain image segments (suc left) a ≡ c ∷ chain image segments left c.header.parent
  unfolding chain
  chain_goes_on c e = rw (chain, ← e)

  end_before : None ≡ context_read image segments a → before image segments left a ≡ []
  unfolding hops
  end_before e = rw (chain_ends e)

  end_deep : None ≡ context_read image segments a → deeper image segments left a ≡ false
  end_deep e = rw (chain_ends e) (lt-leb (suc left) 0 (omega arith))

  module _ (c : Context) (e : Some c ≡ context_read image segments a) where
    too_deep_lem : left ≡ 0 → deeper image segments left a ≡ true
    unfolding chain
    too_deep_lem z = rw (chain_goes_on c e, z)

    module _ (l : ℕ) (el : left ≡ suc l) where
      before_is : before image segments left a ≡ before image segments l c.header.parent ++ hop c.name
      unfolding hops
      before_is = rw (chain_goes_on c e, el)

      deep_is : deeper image segments left a ≡ deeper image segments l c.header.parent
      deep_is = rw (chain_goes_on c e, el, leb-suc-suc)

-- ---- a block

pub no_block : (image segments : List ℕ) (left a rest : ℕ) (names : List Place) → rest < 2 ^ 64
    → Block image segments left a rest names 0 left a rest
unfolding gathered
no_block image segments left a rest names h =
    record { hops = sym (append-nil _); deep = refl; bytes = omega arith; few = omega arith; fewer = omega arith }

module _ (image segments : List ℕ) (left a rest : ℕ) (names : List Place) (count left' a' rest' : ℕ) (b : Block image segments left a rest names count left' a' rest') where
  pub block_ends : None ≡ context_read image segments a' → Last image segments left a rest names count rest'
  block_ends e =
      record {
        hops = b.hops ∙ ap (λ (l : List ℕ). l ++ gathered image names count) (end_before image segments left' a' e);
        deep = b.deep ∙ end_deep image segments left' a' e;
        bytes = b.bytes;
        few = b.few;
      }

  pub block_full : 8 ≤ count → Block image segments left a rest names 8 left' a' rest'
  block_full h = let e : count ≡ 8 = omega (arith, b.few) in rw e at b

  pub block_deep : (c : Context) → Some c ≡ context_read image segments a' → left' ≡ 0 → deeper image segments left a ≡ true
  block_deep c e z = b.deep ∙ too_deep_lem image segments left' a' c e z

  pub block_unnamed : (h : Header) → Some (record { header = h; name = None }) ≡ context_read image segments a' → 0 < left'
      → Block image segments left a rest names count (left' - 1) h.parent rest'
  block_unnamed h e hl =
      let f : before image segments left' a' ≡ before image segments (left' - 1) h.parent =
      before_is image segments left' a' (record { header = h; name = None }) e (left' - 1) (omega arith) ∙ append-nil _ in
      record {
        hops = b.hops ∙ ap (λ (l : List ℕ). l ++ gathered image names count) f;
        deep = b.deep ∙ deep_is image segments left' a' (record { header = h; name = None }) e (left' - 1) (omega arith);
        bytes = b.bytes;
        few = b.few;
        fewer = omega (arith, b.fewer);
      }

  pub block_named : (h : Header) (p : Place) → Some (record { header = h; name = name_read image (Some p) }) ≡ context_read image segments a'
      → (rest'' : ℕ) → rest'' ≡ min (rest' + (p.size + 1)) (2 ^ 64 - 1) → p.start + p.size ≤ length image
      → 0 < left' → count < 8 → count < length names
      → Block image segments left a rest (set names count p) (count + 1) (left' - 1) h.parent rest''
  block_named h p e rest'' er hi hl hc hn =
      let t : List ℕ = part_of image p in
      let lt : length t ≡ p.size = part_length image p.start p.size hi in
      let c : Context = record { header = h; name = name_read image (Some p) } in
      let further : List ℕ = before image segments (left' - 1) h.parent in
      let g : gathered image (set names count p) (count + 1) ≡ (t ++ (46 ∷ [])) ++ gathered image names count =
      rw add-one (stored image names count p hn) in
      let long : length (gathered image (set names count p) (count + 1)) ≡ length t + 1 + length (gathered image names count) =
      rw g (simp length-append) in
      let f : before image segments left' a' ≡ further ++ (t ++ (46 ∷ [])) = before_is image segments left' a' c e (left' - 1) (omega arith) in
      record {
        hops =
            b.hops
            ∙ ap (λ (l : List ℕ). l ++ gathered image names count) f
            ∙ append_assoc further (t ++ (46 ∷ [])) (gathered image names count)
            ∙ ap (λ (l : List ℕ). further ++ l) (sym g);
        deep = b.deep ∙ deep_is image segments left' a' c e (left' - 1) (omega arith);
        bytes = omega (arith, long, lt, er, b.bytes);
        few = omega arith;
        fewer = omega (arith, b.fewer);
      }

-- no context at all
module _ (image segments : List ℕ) (left a rest : ℕ) (e : None ≡ context_read image segments a) where
  no_names : rest < 2 ^ 64 → Last image segments left a rest [] 0 rest
  no_names h = block_ends image segments left a rest [] 0 left a rest (no_block image segments left a rest [] h) e

-- ---- the names into a buffer

-- the names from the last one down to `k` were put: what is put so far, and then the hops of those before `k`, are the hops of all
pub record Putting (image : List ℕ) (names : List Place) (count : ℕ) (b : List ℕ) (at k end : ℕ) (b' : List ℕ) : Type 0 where
  pub text : List ℕ
  pub put : Put b at text end b'
  pub goes : gathered image names count ≡ text ++ gathered image names k
  pub within : k ≤ count

pub put_start : (image : List ℕ) (names : List Place) (count : ℕ) (b : List ℕ) (at : ℕ) → Putting image names count b at count at b
put_start image names count b at = record { text = []; put = put_none b at; goes = refl; within = omega arith }

module _ (image : List ℕ) (names : List Place) (count : ℕ) (b : List ℕ) (at k end : ℕ) (b' : List ℕ) (u : Putting image names count b at k end b') where
  pub put_next : (p b'' b''' : List ℕ) (m n : ℕ) → p ≡ part_of image (get_or names (k - 1) (place 0 0))
      → m ≡ put_end b' end p → b'' ≡ put_into b' end p → n ≡ put_end b'' m (46 ∷ []) → b''' ≡ put_into b'' m (46 ∷ [])
      → 0 < k → at + length (gathered image names count) ≤ length b → Putting image names count b at (k - 1) n b'''
  put_next p b'' b''' m n ep em eb en ed h fits =
      let g : gathered image names count ≡ u.text ++ ((p ++ (46 ∷ [])) ++ gathered image names (k - 1)) = u.goes ∙ ap (λ (x : List ℕ). u.text ++ x) (next_name image names k p ep h) in
      let l : length (gathered image names count) ≡ length u.text + (length p + 1 + length (gathered image names (k - 1))) = rw g (simp length-append) in
      let first : Put b at (u.text ++ p) m b'' = put_more b u.text p b' b'' at end m u.put em eb (omega arith) in
      record {
        text = (u.text ++ p) ++ (46 ∷ []);
        put = put_more b (u.text ++ p) (46 ∷ []) b'' b''' at m n first en ed (omega (arith, length-append u.text p));
        goes = g ∙ simp append_assoc;
        within = omega (arith, u.within);
      }

  pub put_all : k ≡ 0 → Put b at (gathered image names count) end b'
  unfolding gathered
  put_all z =
      subst (λ (t : List ℕ). Put b at t end b') (sym (u.goes ∙ ap (λ (n : ℕ). u.text ++ gathered image names n) z ∙ append-nil u.text)) u.put

  pub put_kept : at + length (gathered image names count) ≤ length b → length b' ≡ length b
  put_kept fits =
      let l : length (gathered image names count) ≡ length u.text + length (gathered image names k) = rw u.goes (simp length-append) in
      put_length b u.text b' at end u.put (omega arith)

-- ---- the answers

pub walk_deep : (image segments : List ℕ) (left a rest size : ℕ) → deeper image segments left a ≡ true → refused 4 ≡ hops_answer image segments left a rest size
unfolding hops_answer
walk_deep image segments left a rest size e = rw e

module _ (image segments : List ℕ) (left a rest : ℕ) (names : List Place) (count rest' : ℕ) (b : Last image segments left a rest names count rest') where
  pub last_long : (size : ℕ) → size < rest' → size < 2 ^ 64 - 1 → refused 3 ≡ hops_answer image segments left a rest size
  unfolding hops_answer
  last_long size h hs = rw (b.deep, b.hops) (simp (lt-ltb size (rest + length (gathered image names count)) (omega (arith, b.bytes))))

  pub last_fits : (size : ℕ) → rest' ≤ size → size < 2 ^ 64 - 1 → length (gathered image names count) ≤ size
  last_fits size h hs = omega (arith, b.bytes)

  pub last_written : (size n : ℕ) → n ≡ 0 + length (gathered image names count) → rest' ≤ size → size < 2 ^ 64 - 1 → answered n ≡ hops_answer image segments left a rest size
  unfolding hops_answer
  last_written size n e h hs =
      rw (b.deep, b.hops) (simp (le-ltb size (rest + length (gathered image names count)) (omega (arith, b.bytes))) (ap answered (omega arith)))

  pub last_filled : (t t' : List ℕ) (n : ℕ) → Put t 0 (gathered image names count) n t' → t' ≡ filled (answered n) (before image segments left a) t
  last_filled t t' n w = rw b.hops (from_start t (gathered image names count) t' n w)

-- if there is no context
module _ (image segments : List ℕ) (left a : ℕ) (e : None ≡ context_read image segments a) where
  pub none_long : (rest size : ℕ) → size < rest → rest < 2 ^ 64 → size < 2 ^ 64 - 1 → refused 3 ≡ hops_answer image segments left a rest size
  none_long rest size h hr hs = last_long image segments left a rest [] 0 rest (no_names image segments left a rest e hr) size h hs

  pub none_written : (rest size : ℕ) → rest ≤ size → size < 2 ^ 64 - 1 → answered 0 ≡ hops_answer image segments left a rest size
  unfolding gathered
  none_written rest size h hs = last_written image segments left a rest [] 0 rest (no_names image segments left a rest e (omega arith)) size 0 refl h hs

  pub none_filled : (t : List ℕ) → t ≡ filled (answered 0) (before image segments left a) t
  unfolding gathered
  none_filled t = last_filled image segments left a 0 [] 0 0 (no_names image segments left a 0 e (omega arith)) t t 0 (put_none t 0)

-- from the answer of the contexts further out
module _ (image segments : List ℕ) (left a rest : ℕ) (names : List Place) (count left' a' rest' : ℕ) (b : Block image segments left a rest names count left' a' rest') where
  further : (size : ℕ) → size < 2 ^ 64 - 1
      → hops_answer image segments left a rest size ≡ onward (length (gathered image names count)) (hops_answer image segments left' a' rest' size)
  unfolding hops_answer
  further size hs = rw (b.deep, b.hops, length-append) (measured (deeper image segments left' a') (length (before image segments left' a')) _ rest rest' size b.bytes hs)

  pub further_fits : (size n : ℕ) → answered n ≡ hops_answer image segments left' a' rest' size → size < 2 ^ 64 - 1
      → n + length (gathered image names count) ≤ size
  further_fits size n f hs = omega (arith, hops_written image segments left' a' rest' size n f, b.bytes)

  pub further_written : (size n r : ℕ) → answered n ≡ hops_answer image segments left' a' rest' size → r ≡ n + length (gathered image names count)
      → size < 2 ^ 64 - 1 → answered r ≡ hops_answer image segments left a rest size
  further_written size n r f er hs = ap answered er ∙ ap (onward (length (gathered image names count))) f ∙ sym (further size hs)

  pub further_refused : (size x : ℕ) → refused x ≡ hops_answer image segments left' a' rest' size → size < 2 ^ 64 - 1 → refused x ≡ hops_answer image segments left a rest size
  further_refused size x f hs = ap (onward (length (gathered image names count))) f ∙ sym (further size hs)

  pub further_filled : (t t' t'' : List ℕ) (at end : ℕ) → t' ≡ filled (answered at) (before image segments left' a') t
      → at ≡ length (before image segments left' a') → Put t' at (gathered image names count) end t'' → at ≤ length t
      → t'' ≡ filled (answered end) (before image segments left a) t
  further_filled t t' t'' at end et ea w h =
      rw b.hops (from_start _ _ _ _ (put_then t (before image segments left' a') (gathered image names count) t' t'' 0 at end (at_start_lem _ _ _ _ ea et) w (omega arith)))
