-- The machine's fields: the state that they are, and what they keep beside it.
use Rattle.std.specs.Prelude.{◌≡◌, ℕ, ◌+◌, ◌^◌, ◌<◌, ◌≤◌, ⊤, min, length, vec_len, vec_capacity}
use Rattle.std.specs.VecDeque.{deque_len, deque_capacity}
use Rattle.flow_core.specs.declared.event.Event.{Event}
use Rattle.flow_core.specs.declared.event.Event.TheVariants.{Claim, Book, Push, Pop, Give}
use Rattle.flow_core.specs.declared.flow.Flow.{Flow}
use Rattle.flow_core.specs.State.{CoreState, need_of}
use Rattle.flow_core.specs.Kept.{IsKept}

abbrev pub state_of : Flow → CoreState
state_of flow =
    record {
      needs = flow.needs.items;
      capacity = flow.capacity;
      part = flow.part;
      next = flow.next;
      booked = flow.booked;
      queue = flow.queue.items;
      lanes = flow.lanes.items;
      claims = flow.claims.items;
      pushed = flow.pushed.items;
      popped = flow.popped.items;
      done = flow.done.items;
    }

-- each list has room for all units, and the queue for as many as it may hold
pub record HasRoom (flow : Flow) : Type 0 where
  pub claims : length flow.needs.items ≤ vec_capacity flow.claims
  pub pushed : length flow.needs.items ≤ vec_capacity flow.pushed
  pub popped : length flow.needs.items ≤ vec_capacity flow.popped
  pub done : length flow.needs.items ≤ vec_capacity flow.done
  pub queue : min flow.capacity (length flow.needs.items) ≤ deque_capacity flow.queue

-- what is kept, and room for all that may yet come
abbrev pub IsSound : Flow → Type 0
IsSound flow = IsKept (state_of flow) × HasRoom flow

-- there is place for what the event adds to the lists, what it books fits, and what it gives back is booked
abbrev pub HasPlace : Event → ℕ → Flow → Type 0
HasPlace (Claim _) unit flow = (length flow.needs.items ≤ 2 ^ 24) × (unit < length flow.needs.items → vec_len flow.claims < vec_capacity flow.claims)
HasPlace (Book _) unit flow = flow.booked + need_of flow.needs.items unit ≤ flow.part
HasPlace (Push _) unit flow = (vec_len flow.pushed < vec_capacity flow.pushed) × (deque_len flow.queue < deque_capacity flow.queue)
HasPlace (Pop _) unit flow = vec_len flow.popped < vec_capacity flow.popped
HasPlace (Give _) unit flow = (vec_len flow.done < vec_capacity flow.done) × (need_of flow.needs.items unit ≤ flow.booked)
HasPlace _ unit flow = ⊤

-- each list has the room that it had
pub record HasRoomOf (old new : Flow) : Type 0 where
  pub claims : vec_capacity new.claims ≡ vec_capacity old.claims
  pub pushed : vec_capacity new.pushed ≡ vec_capacity old.pushed
  pub popped : vec_capacity new.popped ≡ vec_capacity old.popped
  pub done : vec_capacity new.done ≡ vec_capacity old.done
  pub queue : deque_capacity new.queue ≡ deque_capacity old.queue
