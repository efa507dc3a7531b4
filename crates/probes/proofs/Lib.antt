-- What a distance said leaves room for.
pub mod Small
